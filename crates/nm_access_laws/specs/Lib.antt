-- What reaches devices of all that operators ask, and what becomes of rows that they may not write.
pub mod Allowed
pub mod Configs
pub mod Rows
