-- A configuration as what it changes of another.
pub mod Differences
pub mod Places
