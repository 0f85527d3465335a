pub mod Integers
pub mod Data
pub mod Strings
pub mod Choices
pub mod Table
pub mod Names
