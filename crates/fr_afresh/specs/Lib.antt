pub mod Stands
pub mod Choices
pub mod Worlds
pub mod Outcomes
pub mod Trees
pub mod Bodies
pub mod Progress
pub mod Walks
