pub mod Story
pub mod Starts
pub mod Numbers
pub mod Phrases
pub mod Telling
pub mod Examples
