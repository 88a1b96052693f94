use Rattle.std.proofs.Common.{ap, ◌∙◌}
use Rattle.nm_validate_places.specs.Least.{least_with}
use Rattle.nm_validate.specs.Led.{paths_of}
use Rattle.nm_validate.proofs.Cased.{all_below}
use Rattle.nm_validate.proofs.one_case.least_of_choice.Goals as goal

pub returns : goal.returns
returns g c =
    let t = c.args.schema.now in
    let rows = g.M.RowMap.rows c.args.config.now in
    c.in_ok-least.ensures
    ∙ ap (least_with c.args.found) (all_below t rows c.args.choice c.args.nodes.now c.requires.nodes (paths_of c.args.places.now))
