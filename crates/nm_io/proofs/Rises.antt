-- What a count's rise in one call says of the calls around it.
use Rattle.std.proofs.Common.{ℕ, ◌≤◌, arith}
use Rattle.nm_base.specs.Count.{Rose}

-- a count that rose in a later call rose since the beginning
pub Rose-later : (before middle now : ℕ) → before ≤ middle → Rose middle now → Rose before now
Rose-later before middle now h rose = omega arith

-- a count that rose in an earlier call rose to the end
pub Rose-earlier : (before middle now : ℕ) → Rose before middle → middle ≤ now → Rose before now
Rose-earlier before middle now rose h = omega arith
