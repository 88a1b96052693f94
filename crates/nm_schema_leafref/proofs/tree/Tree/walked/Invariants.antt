use Rattle.std.proofs.Common.{◌≡◌, drop}
use Rattle.nm_schema_leafref.specs.Walk as spec
use Rattle.nm_schema_leafref.proofs.tree.Tree.walked.Given as goal

abbrev pub invariant-loop-name : goal.invariant-loop-name
invariant-loop-name l = spec.walked l.self l.written l.owner l.spot (drop l.name-index l.names) ≡ spec.walked l.self l.written l.owner l.fn.from l.names
