use Rattle.std.proofs.Common.{◌∙◌, refl, sym, subst}
use Rattle.nm_explore_ways.specs.Ways.{ways, ways_up_to}
use Rattle.nm_explore_each.specs.Game.{IsCounted, IsSized}
use Rattle.nm_explore_each.proofs.Counting.{goes_first, goes_more, room_for, then}
use Rattle.nm_explore_each.proofs.each.up_to_two.Goals as goal

pub up_to_one-requires-clause-room : goal.up_to_one-requires-clause-room
up_to_one-requires-clause-room g c =
    room_for g.E.PartialEq.eq (g.P.Player.game c.args.player.now) c.args.groups.now.items c.args.groups.now.items
    (ways_up_to c.args.places c.args.faults 2) (ways_up_to c.args.places c.args.faults 1) (ways c.args.places c.args.faults 2 0) (ways_up_to c.args.places c.args.faults 2) refl
    (goes_first g.E.PartialEq.eq (g.P.Player.game c.args.player.now) c.args.groups.now.items (ways_up_to c.args.places c.args.faults 2) (ways_up_to c.args.places c.args.faults 2) refl c.requires.room)

pub each_pair-requires-clause-sized : goal.each_pair-requires-clause-sized
each_pair-requires-clause-sized g c = subst (λ game. IsSized game c.args.places c.args.faults) (sym c.in_ok-up_to_one.ensures.same) c.requires.sized

pub each_pair-requires-clause-room : goal.each_pair-requires-clause-room
each_pair-requires-clause-room g c = (goes_more g.E.PartialEq.eq (g.P.Player.game c.args.player.now) c.args.groups.now.items c.args.groups.now.items c.up_to_one.new.groups.items
    (ways_up_to c.args.places c.args.faults 2) (ways_up_to c.args.places c.args.faults 1) (ways c.args.places c.args.faults 2 0) (ways_up_to c.args.places c.args.faults 2) refl (goes_first g.E.PartialEq.eq (g.P.Player.game c.args.player.now) c.args.groups.now.items (ways_up_to c.args.places c.args.faults 2) (ways_up_to c.args.places c.args.faults 2) refl c.requires.room) c.in_ok-up_to_one.ensures.counted).room

pub returns-clause-counted : goal.returns-clause-counted
returns-clause-counted g c =
    then g.E.PartialEq.eq (g.P.Player.game c.args.player.now) c.args.groups.now.items c.up_to_one.new.groups.items c.each_pair.new.groups.items (ways_up_to c.args.places c.args.faults 1) (ways c.args.places c.args.faults 2 0)
    c.in_ok-up_to_one.ensures.counted
    (subst (λ game. IsCounted g.E.PartialEq.eq game c.up_to_one.new.groups.items c.each_pair.new.groups.items (ways c.args.places c.args.faults 2 0)) c.in_ok-up_to_one.ensures.same c.in_ok-each_pair.ensures.counted)

pub returns-clause-same : goal.returns-clause-same
returns-clause-same g c = c.in_ok-each_pair.ensures.same ∙ c.in_ok-up_to_one.ensures.same
