use Rattle.std.proofs.Common.{◌<◌, ◌+◌, ◌-◌, ◌∙◌, [], ◌∷◌, refl, sym, ap, subst, arith}
use Rattle.nm_explore_ways.specs.Ways.{each_fault, each_place, ways}
use Rattle.nm_explore_each.specs.Game.{IsCounted, IsFront, behind}
use Rattle.nm_explore_each.proofs.Counting.{goes_first, goes_more, goes_last, room_for}
use Rattle.nm_explore_each.proofs.Going.{front_later, next_place_behind, no_place_behind}
use Rattle.nm_explore_each.proofs.each.each_place.Goals as goal

pub loop-place-init : goal.loop-place-init
loop-place-init g c = record {
  same = refl;
  ready = c.requires.ready;
  goes = goes_first g.E.PartialEq.eq (g.P.Player.game c.args.player.now) c.args.groups.now.items (behind c.args.front (ways c.args.places c.args.faults 1 c.args.from)) _ (refl) c.requires.room;
}

pub loop-place-preserved : goal.loop-place-preserved
loop-place-preserved g c =
    let before = c.loop-place.invariant in
    let lt : c.loop-place.place < c.args.places = omega (arith, c.loop-place-test.true) in
    record {
      same = c.in_ok-each_fault.ensures.same ∙ before.same;
      ready = c.in_ok-each_fault.ensures.ready;
      goes = goes_more g.E.PartialEq.eq (g.P.Player.game c.args.player.now) c.args.groups.now.items c.loop-place.groups.items c.each_fault.new.groups.items
          (behind c.args.front (each_place c.args.faults (ways c.args.places c.args.faults 0) c.loop-place.place (c.args.places - c.loop-place.place)))
          (behind c.args.front (each_fault c.loop-place.place 0 c.args.faults ([] ∷ [])))
          (behind c.args.front (each_place c.args.faults (ways c.args.places c.args.faults 0) (c.loop-place.place + 1) (c.args.places - (c.loop-place.place + 1))))
          (behind c.args.front (ways c.args.places c.args.faults 1 c.args.from))
          (next_place_behind c.args.front c.args.faults (ways c.args.places c.args.faults 0) c.loop-place.place c.args.places lt) before.goes
          (subst (λ game. IsCounted g.E.PartialEq.eq game c.loop-place.groups.items c.each_fault.new.groups.items (behind c.args.front (each_fault c.loop-place.place 0 c.args.faults ([] ∷ [])))) before.same c.in_ok-each_fault.ensures.counted);
    }

pub returns-clause-counted : goal.returns-clause-counted
returns-clause-counted g c =
    goes_last g.E.PartialEq.eq (g.P.Player.game c.args.player.now) c.args.groups.now.items c.loop-place.groups.items
    (behind c.args.front (each_place c.args.faults (ways c.args.places c.args.faults 0) c.loop-place.place (c.args.places - c.loop-place.place))) (behind c.args.front (ways c.args.places c.args.faults 1 c.args.from)) (no_place_behind c.args.front c.args.faults (ways c.args.places c.args.faults 0) c.loop-place.place c.args.places (omega (arith, c.loop-place-test.false))) c.loop-place.invariant.goes

pub each_fault-requires-clause-faults : goal.each_fault-requires-clause-faults
each_fault-requires-clause-faults g c =
    let before = c.loop-place.invariant in
    let lt : c.loop-place.place < c.args.places = omega (arith, c.loop-place-test.true) in
    c.requires.sized.has_faults ∙ ap (λ game. game.faults) (sym before.same)

pub each_fault-requires-clause-front : goal.each_fault-requires-clause-front
each_fault-requires-clause-front g c =
    let before = c.loop-place.invariant in
    let lt : c.loop-place.place < c.args.places = omega (arith, c.loop-place-test.true) in
    subst (λ game. IsFront game c.args.front c.loop-place.place) (sym before.same) (front_later (g.P.Player.game c.args.player.now) c.args.front c.args.from c.loop-place.place (omega (arith, c.loop-place.auto.place)) c.requires.front)

pub each_fault-requires-clause-place : goal.each_fault-requires-clause-place
each_fault-requires-clause-place g c =
    let before = c.loop-place.invariant in
    let lt : c.loop-place.place < c.args.places = omega (arith, c.loop-place-test.true) in
    subst (λ n. c.loop-place.place < n) (c.requires.sized.has_places ∙ ap (λ game. game.places) (sym before.same)) lt

pub each_fault-requires-clause-room : goal.each_fault-requires-clause-room
each_fault-requires-clause-room g c =
    let before = c.loop-place.invariant in
    let lt : c.loop-place.place < c.args.places = omega (arith, c.loop-place-test.true) in
    room_for g.E.PartialEq.eq (g.P.Player.game c.args.player.now) c.args.groups.now.items c.loop-place.groups.items
    (behind c.args.front (each_place c.args.faults (ways c.args.places c.args.faults 0) c.loop-place.place (c.args.places - c.loop-place.place)))
    (behind c.args.front (each_fault c.loop-place.place 0 c.args.faults ([] ∷ [])))
    (behind c.args.front (each_place c.args.faults (ways c.args.places c.args.faults 0) (c.loop-place.place + 1) (c.args.places - (c.loop-place.place + 1))))
    (behind c.args.front (ways c.args.places c.args.faults 1 c.args.from))
    (next_place_behind c.args.front c.args.faults (ways c.args.places c.args.faults 0) c.loop-place.place c.args.places lt) before.goes
