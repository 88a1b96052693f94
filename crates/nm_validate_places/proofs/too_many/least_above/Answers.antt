use Rattle.std.proofs.Common.{nat_lt}
use Rattle.nm_validate_rules.specs.Values.{count_at}
use Rattle.nm_validate_places.proofs.Steps.{path_one}
use Rattle.nm_validate_places.proofs.too_many.least_above.Goals as goal

pub loop-path-preserved : goal.loop-path-preserved
loop-path-preserved g c =
    path_one (λ p. nat_lt c.args.max (count_at (g.M.RowMap.rows c.args.config.now) p)) c.in-Some.path c.loop-path.path-iterator.rest.items c.next.new.self.rest.items _ _ _ c.in-Some.ensures.steps.0
    c.with_too_many-least.ensures c.loop-path.invariant
