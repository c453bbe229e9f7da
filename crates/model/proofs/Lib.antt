pub mod Sums
pub mod Steps
pub mod Digits
pub mod Rounds
pub mod Forbids
pub mod Ratios
