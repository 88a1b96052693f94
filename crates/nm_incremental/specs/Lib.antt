-- Where two configurations differ, which paths read that, and how many steps a check takes.
pub mod Differing
pub mod Candidates
pub mod Guarded
pub mod Parts
pub mod Hanging
pub mod Whole
pub mod Read
pub mod Bound
-- What one rule is judged by at one path, beside the rules of nm_validate_rules.
pub mod Members
pub mod Repeats
pub mod Wanted
