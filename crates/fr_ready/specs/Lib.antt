pub mod Ready
pub mod Planning
pub mod Switches
pub mod Seen
