pub mod Steps
pub mod Levels
pub mod Walks
pub mod Bests
pub mod Descents
pub mod Statements
pub mod Numbers
