-- What stands in what: `Holding` has the steps, `Worth` the values along them, `Members` and `Config` what comes of them.
pub mod Holding
pub mod Worth
pub mod Members
pub mod Outline
pub mod Sharing
pub mod Arguments
pub mod Config
pub mod Passing
pub mod Sizes
pub mod Settled
