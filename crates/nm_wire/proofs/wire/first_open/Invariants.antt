use Rattle.std.proofs.Common.{take}
use Rattle.nm_wire.specs.Wire.{AreClosed}
use Rattle.nm_wire.proofs.wire.first_open.Given as goal

-- the links that were passed are closed
abbrev pub invariant-loop-place : goal.invariant-loop-place
invariant-loop-place l = AreClosed (take l.place l.links)
