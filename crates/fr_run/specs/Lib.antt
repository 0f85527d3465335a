pub mod Standing
pub mod Whole
pub mod Scripts
pub mod Written
pub mod Session
