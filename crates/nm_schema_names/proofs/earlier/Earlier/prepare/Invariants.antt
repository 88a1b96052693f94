use Rattle.std.proofs.Common.{◌≡◌}
use Rattle.nm_schema_names.proofs.earlier.Earlier.prepare.Given as goal

abbrev pub invariant-loop-wide : goal.invariant-loop-wide
invariant-loop-wide l = l.known ≡ l.initial.known
