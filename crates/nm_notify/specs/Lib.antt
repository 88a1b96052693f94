-- What a device tells of confirmed commits, and to whom.
pub mod Notices
pub mod Replayed
pub mod Runs
pub mod Stream
pub mod Subscribers
pub mod Since
