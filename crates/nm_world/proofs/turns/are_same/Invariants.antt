use Rattle.std.proofs.Common.{◌≡◌, take}
use Rattle.nm_world.proofs.turns.are_same.Given as goal

-- the two are one so far
abbrev pub invariant-loop-place : goal.invariant-loop-place
invariant-loop-place l = take l.place l.first ≡ take l.place l.second
