use Rattle.std.proofs.Common.{◌≡◌, [], replicate}
use Rattle.nm_schema_nodes.proofs.index.empty.Given as goal

abbrev pub invariant-loop : goal.invariant-loop
invariant-loop l = l.lists.items ≡ replicate l.counter []
