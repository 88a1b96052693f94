-- Objects of any names; the words, names and actions of rules; and the table of them all.
pub mod Entries
pub mod Words
pub mod Parts
pub mod Table
