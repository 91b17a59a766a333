pub mod Files
pub mod Numerals
pub mod Examples
