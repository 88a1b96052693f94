use Rattle.nm_schema_names.proofs.Graphs.{IsBegun}
use Rattle.nm_schema_names.proofs.names.RowNames.successors.Given as goal

-- the graph has the rows before this one
abbrev pub invariant-loop-at : goal.invariant-loop-at
invariant-loop-at l = IsBegun l.self l.at l.graph.items
