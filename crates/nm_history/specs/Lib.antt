-- What happens at a device, what its history tells, and what became of a change set there.
pub mod History
pub mod Effect
pub mod Whole
pub mod Locks
pub mod Leads
pub mod Outcome
