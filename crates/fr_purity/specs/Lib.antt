pub mod Marks
pub mod Calls
pub mod Judgements
pub mod Removal
