pub mod History
pub mod Searched
pub mod Passing
pub mod Determined
