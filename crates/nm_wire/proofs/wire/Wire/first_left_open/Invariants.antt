use Rattle.std.proofs.Common.{◌≡◌, ◌≤◌, ℕ, false}
use Rattle.nm_wire.specs.Wire.{is_left_open}
use Rattle.nm_wire.proofs.wire.Wire.first_left_open.Given as goal

-- none of the links that were passed is it
abbrev pub invariant-loop-place : goal.invariant-loop-place
invariant-loop-place l = (other : ℕ) → other ≤ l.place → is_left_open l.self other ≡ false
