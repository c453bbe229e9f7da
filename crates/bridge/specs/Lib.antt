pub mod Filled
pub mod Answers
pub mod Questions
pub mod ToldLaws
