-- Nodes of a configuration, and the rows below one.
pub mod Place
pub mod Walk
