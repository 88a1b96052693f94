use Rattle.std.proofs.Common.{None, arith}
use Rattle.nm_schema_leafref.specs.Walk.{path_at}
use Rattle.nm_schema_leafref.proofs.Lists.{lists_more, lists_all}
use Rattle.nm_schema_leafref.proofs.Places.{path_at-past}
use Rattle.nm_schema_leafref.proofs.paths.paths_of.Goals as goal

pub loop-at-preserved : goal.loop-at-preserved
loop-at-preserved c = rw c.in_ok-push-in-Ok.ensures.items (lists_more (path_at c.args.rows.now) None c.loop-at.at c.loop-at.all.items c.in-Ok.path c.loop-at.invariant c.in-Ok.ensures)

pub returns : goal.returns
returns c = record { exact = lists_all (path_at c.args.rows.now) None c.loop-at.at c.loop-at.all.items c.loop-at.invariant (λ i le. path_at-past c.args.rows.now i (omega arith)) }
