pub mod Faults
pub mod Files
pub mod MemShelf
pub mod MemSink
pub mod NamedFiles
pub mod Real
pub mod Shelves
pub mod SureShelf
