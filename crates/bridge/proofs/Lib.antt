pub mod Declining
pub mod Handing
