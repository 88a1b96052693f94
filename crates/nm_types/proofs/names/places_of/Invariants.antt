use Rattle.std.proofs.Common.{take}
use Rattle.nm_types.specs.Names.{Finds}
use Rattle.nm_types.proofs.names.places_of.Given as goal

-- the places of the names so far
abbrev pub invariant-loop-place : goal.invariant-loop-place
invariant-loop-place l = Finds (take l.place l.names) l.places
