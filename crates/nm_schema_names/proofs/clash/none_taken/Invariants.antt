use Rattle.std.proofs.Common.{◌≡◌, replicate}
use Rattle.nm_schema_names.specs.Clash.{no_parts}
use Rattle.nm_schema_names.proofs.clash.none_taken.Given as goal

abbrev pub invariant-loop : goal.invariant-loop
invariant-loop l = l.taken.items ≡ replicate l.counter no_parts
