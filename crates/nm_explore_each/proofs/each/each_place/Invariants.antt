use Rattle.std.proofs.Common.{◌≡◌, ◌-◌}
use Rattle.nm_explore_ways.specs.Ways.{each_place, ways}
use Rattle.nm_explore_each.specs.Game.{behind}
use Rattle.nm_explore_each.proofs.Counting.{GoesOn}
use Rattle.nm_explore_each.proofs.each.each_place.Given as goal

-- the player stays the same, and what is left to go makes all with what was gone
abbrev pub invariant-loop-place : goal.invariant-loop-place
invariant-loop-place g l = record {
  same : g.P.Player.game l.player ≡ g.P.Player.game l.fn.player;
  ready : g.P.Player.ready l.player;
  goes : GoesOn g.E.PartialEq.eq (g.P.Player.game l.fn.player) l.fn.groups.items l.groups.items
      (behind l.front (each_place l.faults (ways l.fn.places l.faults 0) l.place (l.fn.places - l.place)))
      (behind l.fn.front (ways l.fn.places l.fn.faults 1 l.fn.from));
}
