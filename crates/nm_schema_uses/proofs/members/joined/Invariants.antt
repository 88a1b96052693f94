use Rattle.std.proofs.Common.{drop}
use Rattle.nm_graph.specs.Value.{all_there, values_at}
use Rattle.nm_schema_uses.specs.Members.{gathered}
use Rattle.nm_schema_uses.proofs.Gathering.{IsGathered}
use Rattle.nm_schema_uses.proofs.members.joined.Given as goal

abbrev pub invariant-loop-next : goal.invariant-loop-next
invariant-loop-next l = IsGathered l.limit l.values l.nodes.items (drop l.next-index l.successors) (gathered l.limit (all_there (values_at l.values l.successors)))
