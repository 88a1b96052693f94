pub mod Masks
pub mod Decimals
pub mod Tokens
pub mod Heads
