mod Options
mod Readings
mod Saturated
mod Added
mod LineEnds
mod Cuts
mod Tells
mod Wholes
mod Goes
mod Turns
mod Settles
pub mod Limits
mod Examples
