pub mod Call
pub mod Promise
