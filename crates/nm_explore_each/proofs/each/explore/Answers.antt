use Rattle.std.proofs.Common.{◌∙◌, [], ap}
use Rattle.std.specs.Prelude.{map}
use Rattle.nm_explore_ways.specs.Ways.{ways_up_to}
use Rattle.nm_explore_each.specs.Game.{run_on}
use Rattle.nm_explore_groups.specs.Groups.{merged}
use Rattle.nm_explore_each.proofs.each.explore.Goals as goal

pub returns-clause-explored : goal.returns-clause-explored
returns-clause-explored g c =
    let game = g.P.Player.game c.args.player.now in
    c.in_ok-up_to.ensures.counted.groups
    ∙ ap (λ before. merged g.E.PartialEq.eq before (map (run_on game) (ways_up_to c.args.places c.args.faults c.args.most))) c.new-groups.ensures.items
    ∙ ap (λ places. merged g.E.PartialEq.eq [] (map (run_on game) (ways_up_to places c.args.faults c.args.most))) c.requires.sized.has_places
    ∙ ap (λ faults. merged g.E.PartialEq.eq [] (map (run_on game) (ways_up_to game.places faults c.args.most))) c.requires.sized.has_faults
