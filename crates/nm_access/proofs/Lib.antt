-- Which choice takes another in; the first rules of lists; rows one after another; and the laws of judgements.
pub mod Choices
pub mod Firsts
pub mod Rows
pub mod Decisions
