pub mod Bounds
pub mod Decision
pub mod Known
