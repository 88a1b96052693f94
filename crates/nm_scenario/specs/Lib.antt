-- The forms of a scenario's members, each in a file of its name; `Scenario` has the whole and what is wrong with it.
pub mod Causes
pub mod Nothing
pub mod Flat
pub mod Yang
pub mod Counts
pub mod Devices
pub mod Changes
pub mod Operators
pub mod Head
pub mod Members
pub mod Numbered
pub mod Scenario
pub mod Reading
