-- Limits, then the forms of arguments, requests and events, and what is numbered in them.
pub mod Limits
pub mod Arguments
pub mod Requests
pub mod Events
pub mod Numbered
pub mod Kept
