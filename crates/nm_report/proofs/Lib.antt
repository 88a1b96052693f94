pub mod Ascending
pub mod Breaks
pub mod Lines
pub mod Texts
