-- What may go wrong in a run.
pub mod Mishaps
