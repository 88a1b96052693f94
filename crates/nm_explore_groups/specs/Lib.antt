-- Groups of runs that end alike.
pub mod Groups
