pub mod Perform
pub mod Step
pub mod Numbers
pub mod Examples
