pub mod Clock
pub mod Cursor
pub mod Finds
pub mod Grows
pub mod Keeps
pub mod Tags
pub mod Follows
