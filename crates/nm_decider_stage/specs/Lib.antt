-- One device's stage in a change set.
pub mod Stages
