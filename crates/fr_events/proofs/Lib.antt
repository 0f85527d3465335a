pub mod Early
pub mod Outcomes
pub mod Calls
pub mod Begins
pub mod Latches
