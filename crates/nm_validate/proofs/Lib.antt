pub mod Steps
pub mod Scanned
pub mod Placed
pub mod Lead
pub mod Cased
pub mod Told
pub mod Sampled
