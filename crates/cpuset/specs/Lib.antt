pub mod Bit
pub mod Tally
pub mod Words
pub mod Set
pub mod Laws
