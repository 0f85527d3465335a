pub mod Hiding
pub mod Steps
