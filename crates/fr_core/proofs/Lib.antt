pub mod Placed
mod Halved
pub mod Parts
pub mod PartLists
pub mod Folds
pub mod Found
mod Examples
