pub mod Opened
pub mod OfParts
pub mod Views
pub mod Nested
mod Chains
mod Walks
mod Repeats
pub mod Among
pub mod Bound
pub mod DistinctNames
pub mod Expanded
pub mod Fits
pub mod Fresh
pub mod Within
pub mod Members
pub mod Numbered
pub mod OneExpansion
pub mod Outlined
pub mod Parsed
pub mod Passed
pub mod Refusals
pub mod Roots
pub mod Translated
pub mod Sizes
pub mod Sound
pub mod Unfit
pub mod Values
