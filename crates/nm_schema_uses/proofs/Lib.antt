pub mod Graphs
pub mod Worths
pub mod Gathering
pub mod Bringing
pub mod Configs
pub mod Sizing
pub mod Without
