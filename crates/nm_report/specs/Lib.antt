-- Texts: what came of events, the report, a check, a journal, and what is told of confirmed commits.
pub mod Trace
pub mod Text
pub mod Check
pub mod Journal
pub mod Notices
