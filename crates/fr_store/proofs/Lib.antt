pub mod Dependents
pub mod Heights
pub mod Lists
pub mod Stores
pub mod Tables
pub mod Widening
pub mod Wirings
