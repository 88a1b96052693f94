-- On which rows it hangs whether a rule is violated, and where such a row can be read.
pub mod Reads
pub mod Concerns
pub mod Reaches
pub mod Candidates
-- What is valid: `Standing` has what stands where, `Violated` a test for each rule, `Violation` the one that is told.
pub mod Standing
pub mod Cases
pub mod Guards
pub mod Places
pub mod Values
pub mod Rule
pub mod Violated
pub mod Violation
pub mod Sample
