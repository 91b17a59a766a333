pub mod Choice
pub mod Order
pub mod Every
pub mod Places
pub mod First
