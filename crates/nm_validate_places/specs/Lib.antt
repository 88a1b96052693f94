-- How the least path of a rule is found: rows and nodes in groups, counts, and what is wanted and isn't there.
pub mod Listed
pub mod Members
pub mod Placing
pub mod Least
pub mod Groups
pub mod Counts
pub mod Wanted
pub mod Choosing
pub mod Leafs
pub mod Tables
