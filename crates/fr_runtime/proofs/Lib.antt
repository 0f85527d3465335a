pub mod States
pub mod Starts
pub mod Values
pub mod Ends
