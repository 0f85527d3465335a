mod Runs
pub mod Numbers
mod Arithmetic
mod Copies
pub mod InOrder
mod Gathering
mod Restoring
pub mod Standing
mod Turning
mod Tables
mod Operands
mod Purity
