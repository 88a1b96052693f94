pub mod Keeping
pub mod Histories
pub mod Standings
pub mod Following
pub mod Tellings
