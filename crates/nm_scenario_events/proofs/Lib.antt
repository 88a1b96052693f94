pub mod Ranges
pub mod Weights
pub mod Order
