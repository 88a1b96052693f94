-- What sources and sinks of bytes tell and promise, in memory, and over `std`.
pub mod Bytes
pub mod Memory
pub mod Adapter
