pub mod Maps
pub mod MarkLemmas
