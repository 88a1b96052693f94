use Rattle.std.proofs.Common.{length}
use Rattle.nm_graph.specs.Graph.{successors_of}
use Rattle.nm_schema_uses.specs.Passing.{is_plain}
use Rattle.nm_schema_uses.proofs.Graphs.{IsDrawn}
use Rattle.nm_schema_uses.proofs.Configs.{picked_of}
use Rattle.nm_schema_uses.proofs.passing.plain_graph.Given as goal

abbrev pub invariant-loop-nodes : goal.invariant-loop-nodes
invariant-loop-nodes l = IsDrawn (picked_of (is_plain l.rows) (successors_of l.graph)) (length l.graph) l.plain.items l.nodes-index
