pub mod Fit
pub mod Edges
pub mod ChainLaws
pub mod NestLaws
