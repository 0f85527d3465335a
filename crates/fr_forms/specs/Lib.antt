pub mod Lent
pub mod Begins
pub mod Rounds
