use Rattle.std.proofs.Common.{drop}
use Rattle.nm_graph.specs.Value.{values_at}
use Rattle.nm_schema_nodes.specs.Choices.{choice_all}
use Rattle.nm_schema_nodes.proofs.Joining.{IsCased}
use Rattle.nm_schema_nodes.proofs.choices.choice_with.Given as goal

abbrev pub invariant-loop-at : goal.invariant-loop-at
invariant-loop-at l = IsCased l.limit l.values l.all (drop l.at l.cases) (drop l.at l.successors) (choice_all l.limit l.row l.cases (values_at l.values l.successors))
