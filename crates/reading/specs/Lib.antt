pub mod Told
pub mod Claims
pub mod Giving
pub mod Tests
pub mod Props
pub mod Reads
