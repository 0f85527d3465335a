pub mod Inside
pub mod Slots
pub mod Ready
pub mod Switches
pub mod Gathering
pub mod Table
