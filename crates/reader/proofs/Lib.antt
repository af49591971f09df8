pub mod Moved
pub mod Determined
