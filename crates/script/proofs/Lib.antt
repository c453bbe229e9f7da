pub mod Digits
pub mod Fields
pub mod Lettered
pub mod OneWay
pub mod FirstLine
pub mod Puts
pub mod Judging
