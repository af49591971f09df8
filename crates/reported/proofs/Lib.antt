pub mod Page
pub mod Taken
pub mod Whole
pub mod Answers
pub mod Comes
pub mod Short
pub mod Determined
