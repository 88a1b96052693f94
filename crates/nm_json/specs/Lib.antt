-- Rows in JSON: `Findings` has what a value holds by a schema, `Whole` what is made of it, `Writing` the way back.
pub mod Values
pub mod Places
pub mod Findings
pub mod Whole
pub mod Noted
pub mod Laws
pub mod Spots
pub mod Writing
pub mod Configs
