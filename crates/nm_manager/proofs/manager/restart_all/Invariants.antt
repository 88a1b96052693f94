use Rattle.std.proofs.Common.{◌≡◌, ◌++◌, map, take, drop}
use Rattle.nm_manager.specs.Slot.{restarted_slot}
use Rattle.nm_manager.proofs.manager.restart_all.Given as goal

-- the slots that were passed are changed, and the others are as they were
abbrev pub invariant-loop-place : goal.invariant-loop-place
invariant-loop-place l = l.slots.items ≡ map (restarted_slot l.device) (take l.place l.fn.slots.items) ++ drop l.place l.fn.slots.items
