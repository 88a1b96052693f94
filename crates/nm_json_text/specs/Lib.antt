-- What one pass over rows writes.
pub mod Passing
