pub mod Configs
pub mod Users
pub mod Allowed
pub mod Runs
pub mod Asked
pub mod Rows
pub mod Closed
pub mod Judging
