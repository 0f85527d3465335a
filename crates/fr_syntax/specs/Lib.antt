pub mod Keywords
pub mod Layouts
pub mod Outlines
pub mod Parts
pub mod Shapes
pub mod Weights
