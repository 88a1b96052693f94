use Rattle.std.proofs.Common.{◌≡◌, ◌+◌, ◌-◌, length}
use Rattle.nm_manager.specs.Manager.{wire_in}
use Rattle.nm_world.specs.Drain.{first_from, lose_link, lose_first}
use Rattle.nm_world.proofs.drain.lose_behind.Given as goal

-- what is found of all of them is found of those that are left
abbrev pub invariant-loop-place : goal.invariant-loop-place
invariant-loop-place g l = first_from (lose_link l.device (wire_in l.manager.state l.change l.number) l.change l.number) (l.place + 1)
    (length (wire_in l.manager.state l.change l.number).links - l.place)
    ≡ lose_first l.device (wire_in l.manager.state l.change l.number) l.change l.number
