-- Where leafrefs lead: places in the tree, the walk along a path, the target, and what is wrong.
pub mod Place
pub mod Walk
pub mod Target
pub mod Fault
pub mod Known
