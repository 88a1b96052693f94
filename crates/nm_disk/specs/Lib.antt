pub mod Image
pub mod ImageLaws
pub mod Moments
pub mod Keeps
pub mod Memory
pub mod MemoryLaws
pub mod File
pub mod Any
