pub mod Changed
pub mod Determined
