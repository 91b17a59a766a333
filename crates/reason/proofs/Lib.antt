pub mod Answered
pub mod Numbers
pub mod Shown
pub mod Pinned
