use Rattle.std.proofs.Common.{◌≡◌, ◌-◌}
use Rattle.nm_explore_ways.specs.Ways.{each_place, ways}
use Rattle.nm_explore_each.proofs.Counting.{GoesOn}
use Rattle.nm_explore_each.proofs.each.each_pair.Given as goal

-- the player stays the same, and what is left to go makes all with what was gone
abbrev pub invariant-loop-place : goal.invariant-loop-place
invariant-loop-place g l = record {
  same : g.P.Player.game l.player ≡ g.P.Player.game l.fn.player;
  ready : g.P.Player.ready l.player;
  goes : GoesOn g.E.PartialEq.eq (g.P.Player.game l.fn.player) l.fn.groups.items l.groups.items
      (each_place l.faults (ways l.places l.faults 1) l.place (l.places - l.place))
      (ways l.fn.places l.fn.faults 2 0);
}
