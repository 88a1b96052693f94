use Rattle.std.proofs.Common.{length}
use Rattle.nm_schema_uses.specs.Holding.{bringing}
use Rattle.nm_schema_uses.proofs.Graphs.{IsDrawn}
use Rattle.nm_schema_uses.proofs.holding.bringing_of.Given as goal

abbrev pub invariant-loop-at : goal.invariant-loop-at
invariant-loop-at l = IsDrawn (bringing l.rows l.groupings) (length l.rows) l.graph.items l.at
