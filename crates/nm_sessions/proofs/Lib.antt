pub mod Tables
pub mod SessionLemmas
