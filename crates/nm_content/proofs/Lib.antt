pub mod Counted
pub mod Looking
pub mod Walked
pub mod Over
pub mod Taking
pub mod Covering
