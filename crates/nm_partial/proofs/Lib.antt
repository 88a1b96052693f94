pub mod Numbered
pub mod Failing
pub mod Changed
pub mod Guards
