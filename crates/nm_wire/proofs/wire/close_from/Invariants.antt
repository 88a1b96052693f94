use Rattle.std.proofs.Common.{◌≡◌, ◌++◌, map, take, drop}
use Rattle.nm_wire.specs.Link.{closed_link}
use Rattle.nm_wire.proofs.wire.close_from.Given as goal

-- the links that were passed are closed, and the others are as they were
abbrev pub invariant-loop-place : goal.invariant-loop-place
invariant-loop-place l = l.links.items ≡ map closed_link (take l.place l.fn.links.items) ++ drop l.place l.fn.links.items
