pub mod Numbered
pub mod Answered
pub mod Determined
