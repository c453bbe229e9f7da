pub mod Turns
pub mod Folders
pub mod FolderCalls
pub mod Statements
pub mod TurnLaws
pub mod FolderLaws
