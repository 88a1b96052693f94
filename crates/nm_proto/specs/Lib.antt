-- Messages, plans and faults, and what a content is.
pub mod Message
pub mod Plan
pub mod Kind
pub mod Content
pub mod Sameness
pub mod Fault
