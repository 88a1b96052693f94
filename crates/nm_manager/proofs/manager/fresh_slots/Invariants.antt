use Rattle.std.proofs.Common.{◌≡◌, suc, ◌++◌, drop}
use Rattle.nm_manager.specs.Manager.{slots_from}
use Rattle.nm_manager.proofs.manager.fresh_slots.Given as goal

-- what was made and what is left make the whole
abbrev pub invariant-loop-place : goal.invariant-loop-place
invariant-loop-place l = l.slots.items ++ slots_from (suc l.place) (drop l.place l.plans) ≡ slots_from 1 l.fn.plans
