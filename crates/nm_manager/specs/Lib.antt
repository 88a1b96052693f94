pub mod Requests
pub mod Slot
pub mod Queues
pub mod Manager
