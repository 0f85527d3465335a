pub mod Parts
pub mod Fit
pub mod Chosen
pub mod First
