pub mod Logged
pub mod Run
pub mod Turn
pub mod Steady
pub mod Demand
pub mod Examples
