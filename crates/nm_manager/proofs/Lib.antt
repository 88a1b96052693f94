pub mod Lists
pub mod Queues
pub mod Slots
pub mod Moments
pub mod Kept
pub mod Reach
pub mod Entered
pub mod Left
