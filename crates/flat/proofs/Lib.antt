pub mod Back
pub mod Inverse
pub mod Pinned
pub mod Sizes
pub mod Through
pub mod LeadsBack
pub mod Lists
