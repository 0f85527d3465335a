pub mod Shapes
pub mod Sets
pub mod Sites
pub mod WellFormed
pub mod Classes
