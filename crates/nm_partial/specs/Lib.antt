pub mod Partial
pub mod Fault
