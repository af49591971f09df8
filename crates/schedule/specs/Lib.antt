pub mod Sections
pub mod Reading
