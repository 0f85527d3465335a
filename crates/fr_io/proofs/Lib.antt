pub mod Appending
pub mod Counts
pub mod Fails
pub mod Names
pub mod Reading
pub mod Shelves
