use Rattle.std.proofs.Common.{drop}
use Rattle.nm_graph.specs.Value.{values_at}
use Rattle.nm_schema_nodes.specs.Choices.{joined_all}
use Rattle.nm_schema_nodes.proofs.Joining.{IsJoined}
use Rattle.nm_schema_nodes.proofs.choices.joined.Given as goal

abbrev pub invariant-loop-next : goal.invariant-loop-next
invariant-loop-next l = IsJoined l.limit l.values l.all (drop l.next-index l.successors) (joined_all l.limit (values_at l.values l.successors))
