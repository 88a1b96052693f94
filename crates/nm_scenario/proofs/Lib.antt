pub mod Counts
pub mod Entries
pub mod Json
pub mod Whole
