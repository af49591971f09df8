pub mod Called
pub mod Whole
pub mod Determined
