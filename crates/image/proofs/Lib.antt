pub mod Inside
pub mod Faithful
pub mod Only
pub mod Taken
pub mod Determined
