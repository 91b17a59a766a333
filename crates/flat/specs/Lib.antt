pub mod Answers
pub mod Calls
pub mod Records
pub mod Leads
