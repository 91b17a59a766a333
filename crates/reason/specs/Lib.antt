pub mod Reason
pub mod Explained
pub mod Numbers
pub mod Shown
