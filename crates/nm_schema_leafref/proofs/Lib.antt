pub mod Lists
pub mod Places
pub mod Walks
pub mod Targets
pub mod Typings
pub mod Faults
pub mod Ones
