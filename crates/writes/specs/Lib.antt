pub mod Records
pub mod History
pub mod Searched
