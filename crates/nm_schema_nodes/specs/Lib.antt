-- Choices and cases by themselves, and those that stand in the rows of modules.
pub mod Forks
pub mod Choices
pub mod Spots
-- The tree of modules, its nodes by name, and how it grows.
pub mod Expansion
pub mod Named
pub mod Growing
pub mod Index
