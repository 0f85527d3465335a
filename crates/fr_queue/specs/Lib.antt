pub mod Pairs
pub mod Queue
pub mod Tree
