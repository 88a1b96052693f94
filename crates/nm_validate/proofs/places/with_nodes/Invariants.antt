use Rattle.std.proofs.Common.{drop}
use Rattle.nm_validate.proofs.Lead.{AreMet}
use Rattle.nm_validate.proofs.places.with_nodes.Given as goal

abbrev pub invariant-loop-path : goal.invariant-loop-path
invariant-loop-path l = AreMet l.schema (drop l.path-index l.paths) l.paths l.places.items
