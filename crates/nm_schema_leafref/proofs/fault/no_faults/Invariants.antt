use Rattle.std.proofs.Common.{◌≡◌, replicate, None}
use Rattle.nm_schema_leafref.proofs.fault.no_faults.Given as goal

abbrev pub invariant-loop : goal.invariant-loop
invariant-loop l = l.faults.items ≡ replicate l.counter None
