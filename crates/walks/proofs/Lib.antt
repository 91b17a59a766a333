pub mod InPlace
pub mod Plain
