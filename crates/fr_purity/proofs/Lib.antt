pub mod Parts
pub mod Listing
pub mod Marking
pub mod Removing
pub mod Splits
pub mod ClassLemmas
