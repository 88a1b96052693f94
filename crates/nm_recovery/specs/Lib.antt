-- What a journal says of each change set.
pub mod Recovery
