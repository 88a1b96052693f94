use Rattle.std.proofs.Common.{◌≡◌, ◌≤◌, drop}
use Rattle.nm_graph.specs.Value.{all_there, values_at}
use Rattle.nm_schema_uses.specs.Sizes.{summed}
use Rattle.nm_schema_uses.proofs.sizes.summed.Given as goal

abbrev pub invariant-loop-next : goal.invariant-loop-next
invariant-loop-next l = record {
  few : l.total ≤ l.limit;
  rest : summed l.limit l.total (all_there (values_at l.values (drop l.next-index l.successors))) ≡ summed l.limit l.first (all_there (values_at l.values l.successors));
}
