use Rattle.std.proofs.Common.{◌≡◌, ◌++◌, map, take, drop}
use Rattle.nm_manager.specs.Slot.{cut_off}
use Rattle.nm_manager.proofs.slot.all_cut_off.Given as goal

-- the sides that were passed are changed, and the others are as they were
abbrev pub invariant-loop-place : goal.invariant-loop-place
invariant-loop-place l = l.sides.items ≡ map (cut_off l.commit) (take l.place l.fn.sides.items) ++ drop l.place l.fn.sides.items
