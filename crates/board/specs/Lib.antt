pub mod Description
pub mod Packed
pub mod Marks
pub mod Numbers
pub mod Examples
