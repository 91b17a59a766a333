pub mod Again
pub mod Choice
pub mod Every
pub mod First
pub mod Pin
pub mod Walk
