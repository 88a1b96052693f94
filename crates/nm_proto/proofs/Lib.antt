pub mod Requests
pub mod Events
