pub mod Sets
pub mod Limits
pub mod Refusals
pub mod Views
pub mod Rings
pub mod Gradings
pub mod Ratios
pub mod Statements
