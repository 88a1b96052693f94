use Rattle.std.proofs.Common.{◌≡◌, drop}
use Rattle.nm_decider.specs.Course.{kept_from}
use Rattle.nm_decider.proofs.choice.kept_in.Given as goal

-- those of the places from this one on that have kept it
abbrev pub invariant-loop-place : goal.invariant-loop-place
invariant-loop-place l = l.kept ≡ kept_from l.place (drop l.place l.seats)
