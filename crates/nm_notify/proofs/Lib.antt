pub mod Pending
pub mod Going
pub mod Gets
pub mod Left
pub mod Passing
