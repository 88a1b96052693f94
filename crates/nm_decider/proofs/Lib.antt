pub mod Seats
pub mod Kept
pub mod Actions
pub mod Moves
pub mod Ranks
pub mod Acks
pub mod Told
pub mod Frame
