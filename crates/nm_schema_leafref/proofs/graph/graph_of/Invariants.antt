use Rattle.std.proofs.Common.{length}
use Rattle.nm_schema_uses.proofs.Graphs.{IsDrawn}
use Rattle.nm_schema_leafref.specs.Known.{targets_in}
use Rattle.nm_schema_leafref.proofs.graph.graph_of.Given as goal

abbrev pub invariant-loop-node : goal.invariant-loop-node
invariant-loop-node l = IsDrawn (targets_in l.leds) (length l.leds) l.graph.items l.node
