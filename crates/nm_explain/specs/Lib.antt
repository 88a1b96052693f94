-- What is told of a fault: lines of a text, sentences for faults, and `Explained` with the whole.
pub mod Lines
pub mod Sentence
pub mod Wanted
pub mod Module
pub mod Tree
pub mod Explained
pub mod Status
-- What a schema tree wants at a place, in words.
pub mod Place
pub mod Numbers
pub mod Types
pub mod Values
