pub mod TypeGraphs
pub mod Stepping
pub mod Valuing
pub mod Cycles
pub mod JudgedRows
pub mod Defaulting
