use Rattle.std.proofs.Common.{◌≡◌, drop}
use Rattle.nm_graph.specs.Value.{all_there, values_at}
use Rattle.nm_schema_uses.specs.Sizes.{highest}
use Rattle.nm_schema_uses.proofs.sizes.highest.Given as goal

abbrev pub invariant-loop-next : goal.invariant-loop-next
invariant-loop-next l = highest l.top (all_there (values_at l.values (drop l.next-index l.successors))) ≡ highest 0 (all_there (values_at l.values l.successors))
