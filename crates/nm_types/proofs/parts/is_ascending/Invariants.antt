use Rattle.std.proofs.Common.{◌≡◌, drop}
use Rattle.nm_types.specs.Parts.{is_ascending}
use Rattle.nm_types.proofs.parts.is_ascending.Given as goal

-- the parts so far ascend
abbrev pub invariant-loop-place : goal.invariant-loop-place
invariant-loop-place l = is_ascending (drop l.place l.parts) ≡ is_ascending l.parts
