use Rattle.std.proofs.Common.{◌<◌, ◌+◌, ◌-◌, ◌^◌, ◌∙◌, [], ◌∷◌, refl, sym, ap, subst, arith}
use Rattle.nm_explore_ways.specs.Ways.{each_fault}
use Rattle.nm_explore_groups.specs.Groups.{runs_in}
use Rattle.nm_explore_each.specs.Game.{IsCounted, IsFront, behind}
use Rattle.nm_explore_each.proofs.Counting.{goes_first, goes_more, goes_last, room_for}
use Rattle.nm_explore_each.proofs.Going.{alone_length, next_fault_behind, no_fault_behind, none_less}
use Rattle.nm_explore_each.proofs.each.each_fault.Goals as goal

pub loop-fault-init : goal.loop-fault-init
loop-fault-init g c = record {
  same = refl;
  ready = c.requires.ready;
  goes = goes_first g.E.PartialEq.eq (g.P.Player.game c.args.player.now) c.args.groups.now.items (behind c.args.front (each_fault c.args.place 0 c.args.faults ([] ∷ []))) _ (ap (λ n. behind c.args.front (each_fault c.args.place 0 n ([] ∷ []))) (none_less c.args.faults)) c.requires.room;
}

pub loop-fault-preserved : goal.loop-fault-preserved
loop-fault-preserved g c =
    let before = c.loop-fault.invariant in
    let lt : c.loop-fault.fault < c.args.faults = omega (arith, c.loop-fault-test.true) in
    record {
      same = c.in_ok-count_behind.ensures.same ∙ before.same;
      ready = c.in_ok-count_behind.ensures.ready;
      goes = goes_more g.E.PartialEq.eq (g.P.Player.game c.args.player.now) c.args.groups.now.items c.loop-fault.groups.items c.count_behind.new.groups.items
          (behind c.args.front (each_fault c.args.place c.loop-fault.fault (c.args.faults - c.loop-fault.fault) ([] ∷ [])))
          (behind c.args.front ((record { place = c.args.place; fault = c.loop-fault.fault } ∷ []) ∷ []))
          (behind c.args.front (each_fault c.args.place (c.loop-fault.fault + 1) (c.args.faults - (c.loop-fault.fault + 1)) ([] ∷ [])))
          (behind c.args.front (each_fault c.args.place 0 c.args.faults ([] ∷ [])))
          (next_fault_behind c.args.front c.args.place c.loop-fault.fault c.args.faults lt) before.goes
          (subst (λ game. IsCounted g.E.PartialEq.eq game c.loop-fault.groups.items c.count_behind.new.groups.items (behind c.args.front ((record { place = c.args.place; fault = c.loop-fault.fault } ∷ []) ∷ []))) before.same c.in_ok-count_behind.ensures.counted);
    }

pub returns-clause-counted : goal.returns-clause-counted
returns-clause-counted g c =
    goes_last g.E.PartialEq.eq (g.P.Player.game c.args.player.now) c.args.groups.now.items c.loop-fault.groups.items
    (behind c.args.front (each_fault c.args.place c.loop-fault.fault (c.args.faults - c.loop-fault.fault) ([] ∷ []))) (behind c.args.front (each_fault c.args.place 0 c.args.faults ([] ∷ []))) (no_fault_behind c.args.front c.args.place c.loop-fault.fault c.args.faults (omega (arith, c.loop-fault-test.false))) c.loop-fault.invariant.goes

pub count_behind-requires-clause-front : goal.count_behind-requires-clause-front
count_behind-requires-clause-front g c =
    let before = c.loop-fault.invariant in
    let lt : c.loop-fault.fault < c.args.faults = omega (arith, c.loop-fault-test.true) in
    subst (λ game. IsFront game c.args.front c.args.place) (sym before.same) c.requires.front

pub count_behind-requires-clause-place : goal.count_behind-requires-clause-place
count_behind-requires-clause-place g c =
    let before = c.loop-fault.invariant in
    let lt : c.loop-fault.fault < c.args.faults = omega (arith, c.loop-fault-test.true) in
    subst (λ game. c.args.place < game.places) (sym before.same) c.requires.place

pub count_behind-requires-clause-fault : goal.count_behind-requires-clause-fault
count_behind-requires-clause-fault g c =
    let before = c.loop-fault.invariant in
    let lt : c.loop-fault.fault < c.args.faults = omega (arith, c.loop-fault-test.true) in
    subst (λ n. c.loop-fault.fault < n) (c.requires.faults ∙ ap (λ game. game.faults) (sym before.same)) lt

pub count_behind-requires-clause-room : goal.count_behind-requires-clause-room
count_behind-requires-clause-room g c =
    let before = c.loop-fault.invariant in
    let lt : c.loop-fault.fault < c.args.faults = omega (arith, c.loop-fault-test.true) in
    subst (λ n. runs_in c.loop-fault.groups.items + n < 2 ^ 64) (alone_length c.args.front (record { place = c.args.place; fault = c.loop-fault.fault }))
    (room_for g.E.PartialEq.eq (g.P.Player.game c.args.player.now) c.args.groups.now.items c.loop-fault.groups.items
    (behind c.args.front (each_fault c.args.place c.loop-fault.fault (c.args.faults - c.loop-fault.fault) ([] ∷ [])))
    (behind c.args.front ((record { place = c.args.place; fault = c.loop-fault.fault } ∷ []) ∷ []))
    (behind c.args.front (each_fault c.args.place (c.loop-fault.fault + 1) (c.args.faults - (c.loop-fault.fault + 1)) ([] ∷ [])))
    (behind c.args.front (each_fault c.args.place 0 c.args.faults ([] ∷ [])))
    (next_fault_behind c.args.front c.args.place c.loop-fault.fault c.args.faults lt) before.goes)
