use Rattle.std.proofs.Common.{◌<◌, ◌+◌, ◌-◌, ◌∙◌, refl, sym, ap, subst, arith}
use Rattle.nm_explore_ways.specs.Ways.{before_each, each_fault, ways}
use Rattle.nm_explore_each.specs.Game.{IsCounted, IsSized}
use Rattle.nm_explore_each.proofs.Counting.{goes_first, goes_more, goes_last, room_for}
use Rattle.nm_explore_each.proofs.Going.{next_fault, no_fault, none_less}
use Rattle.nm_explore_each.proofs.each.each_first.Goals as goal

pub loop-fault-init : goal.loop-fault-init
loop-fault-init g c = record {
  same = refl;
  ready = c.requires.ready;
  goes = goes_first g.E.PartialEq.eq (g.P.Player.game c.args.player.now) c.args.groups.now.items (each_fault c.args.place 0 c.args.faults (ways c.args.places c.args.faults 1 c.args.place)) _ (ap (λ n. each_fault c.args.place 0 n (ways c.args.places c.args.faults 1 c.args.place)) (none_less c.args.faults)) c.requires.room;
}

pub loop-fault-preserved : goal.loop-fault-preserved
loop-fault-preserved g c =
    let before = c.loop-fault.invariant in
    let lt : c.loop-fault.fault < c.args.faults = omega (arith, c.loop-fault-test.true) in
    record {
      same = c.in_ok-each_place.ensures.same ∙ before.same;
      ready = c.in_ok-each_place.ensures.ready;
      goes = goes_more g.E.PartialEq.eq (g.P.Player.game c.args.player.now) c.args.groups.now.items c.loop-fault.groups.items c.each_place.new.groups.items
          (each_fault c.args.place c.loop-fault.fault (c.args.faults - c.loop-fault.fault) (ways c.args.places c.args.faults 1 c.args.place))
          (before_each (record { place = c.args.place; fault = c.loop-fault.fault }) (ways c.args.places c.args.faults 1 c.args.place))
          (each_fault c.args.place (c.loop-fault.fault + 1) (c.args.faults - (c.loop-fault.fault + 1)) (ways c.args.places c.args.faults 1 c.args.place))
          (each_fault c.args.place 0 c.args.faults (ways c.args.places c.args.faults 1 c.args.place))
          (next_fault c.args.place c.loop-fault.fault c.args.faults (ways c.args.places c.args.faults 1 c.args.place) lt) before.goes
          (subst (λ game. IsCounted g.E.PartialEq.eq game c.loop-fault.groups.items c.each_place.new.groups.items (before_each (record { place = c.args.place; fault = c.loop-fault.fault }) (ways c.args.places c.args.faults 1 c.args.place))) before.same c.in_ok-each_place.ensures.counted);
    }

pub returns-clause-counted : goal.returns-clause-counted
returns-clause-counted g c =
    goes_last g.E.PartialEq.eq (g.P.Player.game c.args.player.now) c.args.groups.now.items c.loop-fault.groups.items
    (each_fault c.args.place c.loop-fault.fault (c.args.faults - c.loop-fault.fault) (ways c.args.places c.args.faults 1 c.args.place)) (each_fault c.args.place 0 c.args.faults (ways c.args.places c.args.faults 1 c.args.place)) (no_fault c.args.place c.loop-fault.fault c.args.faults (ways c.args.places c.args.faults 1 c.args.place) (omega (arith, c.loop-fault-test.false))) c.loop-fault.invariant.goes

pub each_place-requires-clause-sized : goal.each_place-requires-clause-sized
each_place-requires-clause-sized g c =
    let before = c.loop-fault.invariant in
    let lt : c.loop-fault.fault < c.args.faults = omega (arith, c.loop-fault-test.true) in
    subst (λ game. IsSized game c.args.places c.args.faults) (sym before.same) c.requires.sized

pub each_place-requires-clause-front : goal.each_place-requires-clause-front
each_place-requires-clause-front g c =
    let before = c.loop-fault.invariant in
    let lt : c.loop-fault.fault < c.args.faults = omega (arith, c.loop-fault-test.true) in
    (omega arith, subst (λ n. c.loop-fault.fault < n) (c.requires.sized.has_faults ∙ ap (λ game. game.faults) (sym before.same)) lt)

pub each_place-requires-clause-room : goal.each_place-requires-clause-room
each_place-requires-clause-room g c =
    let before = c.loop-fault.invariant in
    let lt : c.loop-fault.fault < c.args.faults = omega (arith, c.loop-fault-test.true) in
    room_for g.E.PartialEq.eq (g.P.Player.game c.args.player.now) c.args.groups.now.items c.loop-fault.groups.items
    (each_fault c.args.place c.loop-fault.fault (c.args.faults - c.loop-fault.fault) (ways c.args.places c.args.faults 1 c.args.place))
    (before_each (record { place = c.args.place; fault = c.loop-fault.fault }) (ways c.args.places c.args.faults 1 c.args.place))
    (each_fault c.args.place (c.loop-fault.fault + 1) (c.args.faults - (c.loop-fault.fault + 1)) (ways c.args.places c.args.faults 1 c.args.place))
    (each_fault c.args.place 0 c.args.faults (ways c.args.places c.args.faults 1 c.args.place))
    (next_fault c.args.place c.loop-fault.fault c.args.faults (ways c.args.places c.args.faults 1 c.args.place) lt) before.goes
