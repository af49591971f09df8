pub mod Lines
pub mod Determined
