pub mod Changed
pub mod Granted
pub mod Kept
pub mod Links
