-- What a worker keeps of a change set beside its slot.
pub mod Work
