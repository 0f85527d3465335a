pub mod Wrote
pub mod Each
pub mod Listed
pub mod Steps
pub mod Sets
pub mod Afterwards
pub mod Advanced
