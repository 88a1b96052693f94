use Rattle.std.proofs.Common.{length}
use Rattle.nm_schema_uses.specs.Holding.{bringing}
use Rattle.nm_schema_uses.specs.Config.{kept_of}
use Rattle.nm_schema_uses.proofs.Graphs.{IsDrawn}
use Rattle.nm_schema_nodes.proofs.graph.kept_graph.Given as goal

abbrev pub invariant-loop-at : goal.invariant-loop-at
invariant-loop-at l = IsDrawn (kept_of (bringing l.shape.rows l.shape.groupings) l.shape.rows) (length l.shape.rows) l.graph.items l.at
