pub mod Clauses
pub mod States
pub mod Ranges
pub mod Laws
pub mod Pinned
