pub mod Places
pub mod Nodes
pub mod Framed
pub mod Built
