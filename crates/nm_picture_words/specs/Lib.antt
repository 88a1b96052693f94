-- The words of a picture.
pub mod Phrases
pub mod Words
