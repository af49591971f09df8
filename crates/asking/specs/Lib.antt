pub mod Bounds
pub mod Ask
