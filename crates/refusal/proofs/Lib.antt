pub mod Passed
pub mod Determined
