pub mod Report
pub mod Buffer
pub mod Promise
