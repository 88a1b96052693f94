-- Entries that repeat the values of one before them, in `Repeated`; the rest is how they are told apart in one pass.
pub mod Repeated
pub mod Marks
pub mod Ways
