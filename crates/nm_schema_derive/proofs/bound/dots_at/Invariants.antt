use Rattle.std.proofs.Common.{◌≡◌, ◌+◌, drop}
use Rattle.nm_schema_derive.specs.Bound.{dots_at}
use Rattle.nm_schema_derive.proofs.bound.dots_at.Given as goal

-- no `..` so far
abbrev pub invariant-loop-place : goal.invariant-loop-place
invariant-loop-place l = dots_at l.text ≡ l.place + dots_at (drop l.place l.text)
