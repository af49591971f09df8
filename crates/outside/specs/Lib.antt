pub mod Asked
pub mod Call
pub mod Promise
