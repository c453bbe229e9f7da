pub mod Got
pub mod Contents
pub mod Reading
pub mod Laid
pub mod Sections
pub mod Statements
