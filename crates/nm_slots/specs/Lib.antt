pub mod Course
pub mod Slot
pub mod Book
pub mod Script
pub mod Finished
