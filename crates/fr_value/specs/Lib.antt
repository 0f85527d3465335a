pub mod Bytes
pub mod Data
pub mod DataFalls
pub mod Grammar
pub mod Limits
pub mod Text
pub mod Same
pub mod Valid
