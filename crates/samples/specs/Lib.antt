pub mod Folders
pub mod Results
pub mod Statements
