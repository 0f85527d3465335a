pub mod Chains
pub mod Nests
