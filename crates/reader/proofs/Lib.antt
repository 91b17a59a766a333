pub mod Laws
pub mod Meant
pub mod Limits
pub mod Window
pub mod Numbers
pub mod ExactlyWhen
pub mod Pinned
