pub mod Steps
pub mod Numerals
pub mod Ascii
pub mod Sizes
pub mod Decided
pub mod Printed
