pub mod Steps
pub mod Contiguous
pub mod Meaning
pub mod Maps
pub mod Ranges
pub mod Sorted
