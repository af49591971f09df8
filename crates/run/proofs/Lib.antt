pub mod Runs
pub mod Determined
pub mod Prefix
