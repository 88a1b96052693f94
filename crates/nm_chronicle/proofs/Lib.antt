pub mod Lines
pub mod Boards
pub mod Fresh
pub mod Named
pub mod Steps
pub mod Along
