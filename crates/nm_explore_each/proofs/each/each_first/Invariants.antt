use Rattle.std.proofs.Common.{◌≡◌, ◌-◌}
use Rattle.nm_explore_ways.specs.Ways.{each_fault, ways}
use Rattle.nm_explore_each.proofs.Counting.{GoesOn}
use Rattle.nm_explore_each.proofs.each.each_first.Given as goal

-- the player stays the same, and what is left to go makes all with what was gone
abbrev pub invariant-loop-fault : goal.invariant-loop-fault
invariant-loop-fault g l = record {
  same : g.P.Player.game l.player ≡ g.P.Player.game l.fn.player;
  ready : g.P.Player.ready l.player;
  goes : GoesOn g.E.PartialEq.eq (g.P.Player.game l.fn.player) l.fn.groups.items l.groups.items
      (each_fault l.place l.fault (l.faults - l.fault) (ways l.places l.faults 1 l.place))
      (each_fault l.fn.place 0 l.fn.faults (ways l.fn.places l.fn.faults 1 l.fn.place));
}
