use Rattle.std.proofs.Common.{None}
use Rattle.nm_schema_leafref.specs.Walk.{path_at}
use Rattle.nm_schema_leafref.proofs.Lists.{Lists}
use Rattle.nm_schema_leafref.proofs.paths.paths_of.Given as goal

abbrev pub invariant-loop-at : goal.invariant-loop-at
invariant-loop-at l = Lists (path_at l.rows) None l.at l.all.items
