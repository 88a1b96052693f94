-- Runs that go ways, and what they come to.
pub mod Game
