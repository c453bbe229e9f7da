pub mod Adding
pub mod Laying
pub mod Releasing
