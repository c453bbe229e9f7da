pub mod Joining
pub mod Listing
pub mod Steps
pub mod Back
pub mod Only
pub mod Lookups
pub mod Chains
pub mod Lengths
