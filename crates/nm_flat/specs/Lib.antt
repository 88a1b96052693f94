pub mod NumberMap
pub mod Flat
pub mod FlatContent
