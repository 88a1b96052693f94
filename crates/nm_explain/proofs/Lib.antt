pub mod Places
pub mod Saying
pub mod Parting
pub mod Leading
