pub mod Parts
pub mod Works
pub mod Calls
mod Good
pub mod Inside
pub mod Means
pub mod Values
mod Cells
pub mod Trees
mod Clean
mod Carry
mod Steady
mod Front
pub mod Items
pub mod Errors
mod Building
mod Valued
mod Examples
