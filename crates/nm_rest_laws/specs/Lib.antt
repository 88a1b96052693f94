pub mod Calm
pub mod Closing
pub mod Steady
pub mod Turns
pub mod Rest
