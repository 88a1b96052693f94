pub mod Merged
pub mod Counted
pub mod Places
