pub mod Totals
pub mod Eras
pub mod Counts
pub mod Operators
pub mod Costs
pub mod Bodies
pub mod Builds
mod Examples
mod Stopped
