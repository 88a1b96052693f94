pub mod Links
pub mod Asks
pub mod Slots
pub mod Later
pub mod Told
pub mod Runs
