-- What passes, histories, the board, slots and the journal of a run agree on, and what an audit of them finds.
pub mod First
pub mod Audited
pub mod Numbers
pub mod Passes
pub mod Held
pub mod Marks
pub mod Audits
pub mod Agree
pub mod Commits
pub mod Decided
