pub mod Progress
pub mod Sets
pub mod Rows
pub mod Places
pub mod Standing
pub mod Counting
pub mod Rings
pub mod Judging
