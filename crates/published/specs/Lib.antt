pub mod Memory
pub mod Calls
pub mod Follows
pub mod Premises
