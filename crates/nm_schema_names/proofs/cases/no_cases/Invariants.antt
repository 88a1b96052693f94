use Rattle.std.proofs.Common.{◌≡◌, [], replicate}
use Rattle.nm_schema_names.proofs.cases.no_cases.Given as goal

abbrev pub invariant-loop : goal.invariant-loop
invariant-loop l = l.taken.items ≡ replicate l.counter []
