-- Configurations as finite maps; what is at or below a node is in `Under`.
pub mod Rough
pub mod Rows
pub mod Under
