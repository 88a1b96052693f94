-- What all is told beside the commands of `netm`: the words, and what is told to them.
pub mod Words
pub mod Told
