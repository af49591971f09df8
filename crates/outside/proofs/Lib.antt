pub mod Left
pub mod Kept
pub mod Leaves
pub mod Determined
