use Rattle.std.proofs.Common.{length}
use Rattle.nm_graph.specs.Graph.{successors_of}
use Rattle.nm_schema_uses.specs.Config.{is_kept}
use Rattle.nm_schema_uses.proofs.Graphs.{IsDrawn}
use Rattle.nm_schema_uses.proofs.Configs.{picked_of}
use Rattle.nm_schema_uses.proofs.config.kept_graph.Given as goal

abbrev pub invariant-loop-nodes : goal.invariant-loop-nodes
invariant-loop-nodes l = IsDrawn (picked_of (is_kept l.rows) (successors_of l.graph)) (length l.graph) l.kept.items l.nodes-index
