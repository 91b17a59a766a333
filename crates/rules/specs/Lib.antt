pub mod Statuses
pub mod Numbers
pub mod Table
pub mod Calls
pub mod Reports
pub mod Decide
pub mod Moves
