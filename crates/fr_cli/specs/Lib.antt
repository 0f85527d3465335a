pub mod Command
pub mod Lines
pub mod Obeyed
pub mod Requests
