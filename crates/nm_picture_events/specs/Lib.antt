-- The shapes of each kind of event.
pub mod Scene
pub mod Pieces
pub mod Messages
pub mod Entries
pub mod Faults
