pub mod Sites
pub mod Along
pub mod Members
pub mod Spent
