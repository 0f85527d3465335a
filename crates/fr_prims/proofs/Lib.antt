mod Examples
mod Limits
