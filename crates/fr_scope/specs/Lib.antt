pub mod Given
pub mod Hiding
pub mod Meanings
