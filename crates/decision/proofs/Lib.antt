pub mod Sizes
pub mod Known
pub mod Settled
pub mod Determined
