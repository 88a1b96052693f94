use Rattle.std.proofs.Common.{◌≡◌, None, replicate}
use Rattle.nm_schema_names.proofs.known.no_names.Given as goal

abbrev pub invariant-loop : goal.invariant-loop
invariant-loop l = l.sets.items ≡ replicate l.counter None
