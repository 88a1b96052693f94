pub mod Named
pub mod Passing
pub mod Rows
pub mod Closed
pub mod Steady
pub mod Belonging
pub mod Sound
