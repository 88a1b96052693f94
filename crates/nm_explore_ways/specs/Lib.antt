-- Ways in which faults are put into a run.
pub mod Ways
