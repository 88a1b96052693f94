-- Which values the targets of leafrefs have, and the first row whose leafref refers to none of them.
pub mod Kept
pub mod Known
pub mod Lost
