pub mod Kinds
pub mod Makes
pub mod Listed
pub mod Signals
