-- What a scenario that is read keeps, where faults are placed, and texts that differ in the order of members alone.
pub mod Kept
pub mod Placed
pub mod Order
