pub mod Grades
pub mod Drafts
pub mod Writing
