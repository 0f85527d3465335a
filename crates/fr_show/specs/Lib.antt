pub mod Course
pub mod Accepted
pub mod Stops
pub mod Ends
pub mod Output
pub mod Shows
