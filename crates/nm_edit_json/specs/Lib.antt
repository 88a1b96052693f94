-- Edits in JSON: annotations, then `Findings` with what a value holds by a schema, and `Whole` with what is made of it.
pub mod Annotations
pub mod Findings
pub mod Whole
pub mod Noted
pub mod Around
pub mod Laws
