pub mod Image
pub mod Promise
