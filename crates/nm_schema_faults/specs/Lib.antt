-- `Flaw` has what is wrong with a row, `Fault` the first fault of all; the rest is what they rest on.
pub mod Facts
pub mod Flaw
pub mod Misfit
pub mod Fault
pub mod Grounded
