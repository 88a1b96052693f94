-- What is told of a configuration, in `Told`; the rest has places, and the children of one choice.
pub mod Told
pub mod Places
pub mod Led
pub mod Others
pub mod Sample
