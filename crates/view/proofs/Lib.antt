pub mod Joined
pub mod Determined
