pub mod Ready
pub mod Stops
pub mod Builds
pub mod Works
pub mod Items
