pub mod Record
pub mod Entries
pub mod Fits
pub mod Keeps
