use Rattle.std.proofs.Common.{◌∙◌, [], ◌∷◌, refl, sym, subst}
use Rattle.nm_explore_ways.specs.Ways.{ways, ways_up_to}
use Rattle.nm_explore_each.specs.Game.{IsCounted, IsSized}
use Rattle.nm_explore_each.proofs.Counting.{goes_first, goes_more, room_for, then}
use Rattle.nm_explore_each.proofs.each.up_to_one.Goals as goal

pub count-requires-clause-room : goal.count-requires-clause-room
count-requires-clause-room g c =
    room_for g.E.PartialEq.eq (g.P.Player.game c.args.player.now) c.args.groups.now.items c.args.groups.now.items
    (ways_up_to c.args.places c.args.faults 1) ([] ∷ []) (ways c.args.places c.args.faults 1 0) (ways_up_to c.args.places c.args.faults 1) refl
    (goes_first g.E.PartialEq.eq (g.P.Player.game c.args.player.now) c.args.groups.now.items (ways_up_to c.args.places c.args.faults 1) (ways_up_to c.args.places c.args.faults 1) refl c.requires.room)

pub each_place-requires-clause-sized : goal.each_place-requires-clause-sized
each_place-requires-clause-sized g c = subst (λ game. IsSized game c.args.places c.args.faults) (sym c.in_ok-count.ensures.same) c.requires.sized

pub each_place-requires-clause-room : goal.each_place-requires-clause-room
each_place-requires-clause-room g c = (goes_more g.E.PartialEq.eq (g.P.Player.game c.args.player.now) c.args.groups.now.items c.args.groups.now.items c.count.new.groups.items
    (ways_up_to c.args.places c.args.faults 1) ([] ∷ []) (ways c.args.places c.args.faults 1 0) (ways_up_to c.args.places c.args.faults 1) refl (goes_first g.E.PartialEq.eq (g.P.Player.game c.args.player.now) c.args.groups.now.items (ways_up_to c.args.places c.args.faults 1) (ways_up_to c.args.places c.args.faults 1) refl c.requires.room) c.in_ok-count.ensures.counted).room

pub returns-clause-counted : goal.returns-clause-counted
returns-clause-counted g c =
    then g.E.PartialEq.eq (g.P.Player.game c.args.player.now) c.args.groups.now.items c.count.new.groups.items c.each_place.new.groups.items ([] ∷ []) (ways c.args.places c.args.faults 1 0)
    c.in_ok-count.ensures.counted
    (subst (λ game. IsCounted g.E.PartialEq.eq game c.count.new.groups.items c.each_place.new.groups.items (ways c.args.places c.args.faults 1 0)) c.in_ok-count.ensures.same c.in_ok-each_place.ensures.counted)

pub returns-clause-same : goal.returns-clause-same
returns-clause-same g c = c.in_ok-each_place.ensures.same ∙ c.in_ok-count.ensures.same
