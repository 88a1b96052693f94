use Rattle.std.proofs.Common.{not}
use Rattle.std.specs.FinMap.{contains_key}
use Rattle.nm_validate_places.proofs.Steps.{path_one}
use Rattle.nm_validate_places.proofs.leafs.least_missing.Goals as goal

pub loop-path-preserved : goal.loop-path-preserved
loop-path-preserved g c =
    path_one (λ p. not (contains_key (g.M.RowMap.rows c.args.config.now) p)) c.in-Some.path c.loop-path.path-iterator.rest.items c.next.new.self.rest.items _ _ _ c.in-Some.ensures.steps.0
    c.with_missing-least.ensures c.loop-path.invariant
