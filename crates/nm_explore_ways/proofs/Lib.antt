pub mod Once
pub mod Counts
