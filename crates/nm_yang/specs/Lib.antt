-- Statements as trees, then how they are read, byte by byte; what a text is by the grammar, and how a statement is written.
pub mod Tree
pub mod Byte
pub mod Page
pub mod Blank
pub mod Word
pub mod Quote
pub mod Argument
pub mod Module
pub mod Grammar
pub mod Written
