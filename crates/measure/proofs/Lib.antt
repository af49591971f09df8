pub mod Widths
pub mod Determined
