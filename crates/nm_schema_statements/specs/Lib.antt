-- Keywords, then texts of arguments, then statements as rows, and what the grammar asks of each row.
pub mod Word
pub mod Text
pub mod Rows
pub mod Flaw
