use Rattle.nm_validate_places.specs.Placing.{place_at}
use Rattle.nm_validate_places.proofs.Steps.{put_one, put_all}
use Rattle.nm_validate_places.proofs.areas.placed.Goals as goal

pub loop-above-preserved : goal.loop-above-preserved
loop-above-preserved g c =
    put_one (place_at c.args.schema.now (g.M.RowMap.rows c.args.config.now) c.args.at) c.args.areas.now c.loop-above.above-index c.above-item.result _ _ _ c.loop-above-test.true c.above-item.is
    c.in_ok-put_place.ensures c.loop-above.invariant

pub returns : goal.returns
returns g c =
    put_all (place_at c.args.schema.now (g.M.RowMap.rows c.args.config.now) c.args.at) c.args.areas.now c.loop-above.above-index _ _ c.loop-above-test.false c.loop-above.invariant
