use Rattle.std.proofs.Common.{subst}
use Rattle.nm_explore_each.specs.Game.{IsFront}
use Rattle.nm_explore_each.proofs.Going.{goes_alone, goes_behind}
use Rattle.nm_explore_each.proofs.each.count_behind.Goals as goal

pub count-requires-clause-goes : goal.count-requires-clause-goes
count-requires-clause-goes g c = goes_alone (g.P.Player.game c.args.player.now) c.args.one c.requires.place c.requires.fault

pub count-requires-in-Some-clause-goes : goal.count-requires-in-Some-clause-goes
count-requires-in-Some-clause-goes g c =
    let front = subst (λ front. IsFront (g.P.Player.game c.args.player.now) front c.args.one.place) c.in-Some.is c.requires.front in
    goes_behind (g.P.Player.game c.args.player.now) c.in-Some.first c.args.one front c.requires.place c.requires.fault
