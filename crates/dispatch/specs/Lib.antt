pub mod Dispatches
