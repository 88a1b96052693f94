-- Which operations and rows a rule is about, which rules are a user's, what is decided, and laws of that.
pub mod Covers
pub mod Rule
pub mod Judged
pub mod Laws
