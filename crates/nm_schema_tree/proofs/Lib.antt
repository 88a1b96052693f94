pub mod Positions
pub mod Indexes
pub mod Changes
pub mod Finding
pub mod Nesting
