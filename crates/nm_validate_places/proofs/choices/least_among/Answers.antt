use Rattle.nm_validate_places.specs.Choosing.{missing_by}
use Rattle.nm_validate_places.proofs.Steps.{least_one, least_all}
use Rattle.nm_validate_places.proofs.choices.least_among.Goals as goal

pub loop-above-preserved : goal.loop-above-preserved
loop-above-preserved g c =
    least_one (missing_by c.args.schema.now (g.M.RowMap.rows c.args.config.now) c.args.choice.now c.args.nodes.now) c.args.areas.now c.loop-above.above-index c.above-item.result _ _ _ c.loop-above-test.true c.above-item.is
    c.in_ok-least.ensures c.loop-above.invariant

pub returns : goal.returns
returns g c =
    least_all (missing_by c.args.schema.now (g.M.RowMap.rows c.args.config.now) c.args.choice.now c.args.nodes.now) c.args.areas.now c.loop-above.above-index _ _ c.loop-above-test.false c.loop-above.invariant
