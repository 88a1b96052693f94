-- What takes an edit back: `Inverse` has the edit that does, `Since` what has been changed in between, `Laws` what comes of both.
pub mod Inverse
pub mod Since
pub mod Laws
