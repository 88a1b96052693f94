pub mod Moment
pub mod Numbered
pub mod Keeps
pub mod Token
pub mod Telling
pub mod Own
pub mod Openings
