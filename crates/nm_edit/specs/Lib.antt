-- An edit as what it changes of the rows that are there, and what is said of a path on the way.
pub mod Changed
pub mod Said
-- Edits: what is said at each node, what is done there, why that is refused, and what comes of it.
pub mod Words
pub mod Standing
pub mod Acts
pub mod Refusals
pub mod Rivals
pub mod Edited
pub mod EditOf
pub mod Laws
