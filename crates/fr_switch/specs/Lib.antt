pub mod Fit
pub mod Program
pub mod Stops
