pub mod Good
pub mod Levels
mod Examples
pub mod Named
pub mod Begins
pub mod Pure
pub mod Locality
pub mod Prefixes
pub mod Order
pub mod Each
pub mod Laid
pub mod Told
pub mod Decided
pub mod Visits
pub mod Bodies
pub mod Made
