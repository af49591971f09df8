pub mod Access
pub mod Calls
pub mod Step
pub mod Kept
pub mod Log
pub mod Queue
pub mod Reached
