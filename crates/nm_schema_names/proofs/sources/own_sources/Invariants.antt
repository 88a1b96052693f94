use Rattle.std.proofs.Common.{◌≡◌, ℕ, length}
use Rattle.nm_schema_names.specs.Sharing.{source_at}
use Rattle.nm_schema_names.proofs.sources.own_sources.Given as goal

abbrev pub invariant-loop-at : goal.invariant-loop-at
invariant-loop-at l = record {
  size : length l.sources.items ≡ l.at;
  each : (i : ℕ) → source_at l.sources.items i ≡ i;
}
