pub mod Indexes
pub mod Putting
pub mod Finding
pub mod Colons
pub mod Modules
pub mod Laws
pub mod Words
