pub mod Laws
pub mod Lists
pub mod Marks
pub mod Round
pub mod Numbers
pub mod Pinned
