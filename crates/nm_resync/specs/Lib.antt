-- What is asked after a break, and what a whole resynchronisation knows.
pub mod Resync
pub mod Known
