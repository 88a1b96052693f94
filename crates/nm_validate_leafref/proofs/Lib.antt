pub mod Steps
pub mod Paths
pub mod Reaching
pub mod Knowing
pub mod Grouping
pub mod Losing
pub mod AtHand
