use Rattle.std.proofs.Common.{◌≡◌, ◌+◌, ◌++◌, length, take, drop}
use Rattle.nm_manager.specs.Manager.{start_anew}
use Rattle.nm_manager.proofs.manager.all_anew.Given as goal

-- the change sets that were passed go on anew, and those that are left make the whole
abbrev pub invariant-loop-place : goal.invariant-loop-place
invariant-loop-place l =
    (length l.slots.items ≡ length l.plans)
    × (take l.place l.slots.items ++ start_anew l.entries (l.place + 1) (drop l.place l.plans) (drop l.place l.slots.items) ≡ start_anew l.entries 1 l.plans l.fn.slots.items)
