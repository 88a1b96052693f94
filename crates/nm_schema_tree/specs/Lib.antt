-- Schema trees as lists of nodes, and what finds a node by its name.
pub mod Nodes
pub mod Levels
