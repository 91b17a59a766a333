pub mod Laws
pub mod Round
pub mod ByBytes
pub mod Turned
pub mod Pinned
