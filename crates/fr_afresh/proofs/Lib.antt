pub mod SourceSteps
pub mod Good
pub mod Instants
pub mod Walks
