pub mod Record
pub mod WellFormed
