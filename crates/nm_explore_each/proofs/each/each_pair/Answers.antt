use Rattle.std.proofs.Common.{◌<◌, ◌+◌, ◌-◌, ◌∙◌, refl, sym, subst, arith}
use Rattle.nm_explore_ways.specs.Ways.{each_fault, each_place, ways}
use Rattle.nm_explore_each.specs.Game.{IsCounted, IsSized}
use Rattle.nm_explore_each.proofs.Counting.{goes_first, goes_more, goes_last, room_for}
use Rattle.nm_explore_each.proofs.Going.{next_place, no_place}
use Rattle.nm_explore_each.proofs.each.each_pair.Goals as goal

pub loop-place-init : goal.loop-place-init
loop-place-init g c = record {
  same = refl;
  ready = c.requires.ready;
  goes = goes_first g.E.PartialEq.eq (g.P.Player.game c.args.player.now) c.args.groups.now.items (ways c.args.places c.args.faults 2 0) _ (refl) c.requires.room;
}

pub loop-place-preserved : goal.loop-place-preserved
loop-place-preserved g c =
    let before = c.loop-place.invariant in
    let lt : c.loop-place.place < c.args.places = omega (arith, c.loop-place-test.true) in
    record {
      same = c.in_ok-each_first.ensures.same ∙ before.same;
      ready = c.in_ok-each_first.ensures.ready;
      goes = goes_more g.E.PartialEq.eq (g.P.Player.game c.args.player.now) c.args.groups.now.items c.loop-place.groups.items c.each_first.new.groups.items
          (each_place c.args.faults (ways c.args.places c.args.faults 1) c.loop-place.place (c.args.places - c.loop-place.place))
          (each_fault c.loop-place.place 0 c.args.faults (ways c.args.places c.args.faults 1 c.loop-place.place))
          (each_place c.args.faults (ways c.args.places c.args.faults 1) (c.loop-place.place + 1) (c.args.places - (c.loop-place.place + 1)))
          (ways c.args.places c.args.faults 2 0)
          (next_place c.args.faults (ways c.args.places c.args.faults 1) c.loop-place.place c.args.places lt) before.goes
          (subst (λ game. IsCounted g.E.PartialEq.eq game c.loop-place.groups.items c.each_first.new.groups.items (each_fault c.loop-place.place 0 c.args.faults (ways c.args.places c.args.faults 1 c.loop-place.place))) before.same c.in_ok-each_first.ensures.counted);
    }

pub returns-clause-counted : goal.returns-clause-counted
returns-clause-counted g c =
    goes_last g.E.PartialEq.eq (g.P.Player.game c.args.player.now) c.args.groups.now.items c.loop-place.groups.items
    (each_place c.args.faults (ways c.args.places c.args.faults 1) c.loop-place.place (c.args.places - c.loop-place.place)) (ways c.args.places c.args.faults 2 0) (no_place c.args.faults (ways c.args.places c.args.faults 1) c.loop-place.place c.args.places (omega (arith, c.loop-place-test.false))) c.loop-place.invariant.goes

pub each_first-requires-clause-sized : goal.each_first-requires-clause-sized
each_first-requires-clause-sized g c =
    let before = c.loop-place.invariant in
    let lt : c.loop-place.place < c.args.places = omega (arith, c.loop-place-test.true) in
    subst (λ game. IsSized game c.args.places c.args.faults) (sym before.same) c.requires.sized

pub each_first-requires-clause-room : goal.each_first-requires-clause-room
each_first-requires-clause-room g c =
    let before = c.loop-place.invariant in
    let lt : c.loop-place.place < c.args.places = omega (arith, c.loop-place-test.true) in
    room_for g.E.PartialEq.eq (g.P.Player.game c.args.player.now) c.args.groups.now.items c.loop-place.groups.items
    (each_place c.args.faults (ways c.args.places c.args.faults 1) c.loop-place.place (c.args.places - c.loop-place.place))
    (each_fault c.loop-place.place 0 c.args.faults (ways c.args.places c.args.faults 1 c.loop-place.place))
    (each_place c.args.faults (ways c.args.places c.args.faults 1) (c.loop-place.place + 1) (c.args.places - (c.loop-place.place + 1)))
    (ways c.args.places c.args.faults 2 0)
    (next_place c.args.faults (ways c.args.places c.args.faults 1) c.loop-place.place c.args.places lt) before.goes
