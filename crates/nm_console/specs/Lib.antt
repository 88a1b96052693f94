-- What the program says: statuses, words, refusals, and `Console` with the answer to each command.
pub mod Status
pub mod Words
pub mod Refusal
pub mod Rows
pub mod Console
