pub mod Schedule
pub mod Promise
