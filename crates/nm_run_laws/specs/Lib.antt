pub mod Due
pub mod Upheld
pub mod Anew
