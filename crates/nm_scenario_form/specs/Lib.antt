-- Tables of forms: `Form` has their words, `Says` and `Wrong` what they mean, `Read` how they are read.
pub mod Order
pub mod Form
pub mod Says
pub mod Wrong
pub mod Read
pub mod Leafs
pub mod Kept
pub mod Exact
pub mod Places
-- Parts of JSON values: how they are read, words of lists, and places of faults.
pub mod Reading
pub mod Words
pub mod Pointer
pub mod Line
