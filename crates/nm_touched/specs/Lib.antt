-- The rows that an edit touches, and how.
pub mod Touched
