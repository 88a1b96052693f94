use Rattle.nm_validate_places.specs.Wanted.{is_short}
use Rattle.nm_validate_places.proofs.Steps.{path_one}
use Rattle.nm_validate_places.proofs.too_few.least_below.Goals as goal

pub loop-path-preserved : goal.loop-path-preserved
loop-path-preserved g c =
    path_one (is_short c.args.schema.now (g.M.RowMap.rows c.args.config.now) c.args.min c.args.others.now) c.in-Some.path c.loop-path.path-iterator.rest.items c.next.new.self.rest.items _ _ _ c.in-Some.ensures.steps.0
    c.in_ok-least.ensures c.loop-path.invariant
