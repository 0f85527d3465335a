pub mod Writes
pub mod Each
pub mod Places
pub mod Instants
