pub mod Judged
pub mod Told
pub mod Chains
pub mod Kept
pub mod Passes
