pub mod Fields
pub mod State
