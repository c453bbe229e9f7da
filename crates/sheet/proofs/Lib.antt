pub mod Checking
pub mod Changes
pub mod Keeping
pub mod Tables
