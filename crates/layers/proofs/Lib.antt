pub mod Filing
pub mod Turning
pub mod Undoing
