pub mod World
pub mod Runs
pub mod Drain
pub mod Report
