pub mod Bytes
pub mod Rises
pub mod Pieces
