pub mod Ways
pub mod Numbered
pub mod Queue
pub mod Closed
pub mod Rest
