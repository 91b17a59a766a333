pub mod Written
pub mod Laws
pub mod Kept
pub mod Stays
pub mod Refused
pub mod Numbers
pub mod Pinned
