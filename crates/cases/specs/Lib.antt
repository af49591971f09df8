pub mod Question
pub mod Table
