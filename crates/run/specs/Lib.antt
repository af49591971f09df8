pub mod Run
pub mod Ends
pub mod Prefix
