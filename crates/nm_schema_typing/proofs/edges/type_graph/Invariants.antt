use Rattle.std.proofs.Common.{◌≡◌, ℕ, ◌<◌, length}
use Rattle.nm_graph.specs.Graph.{successors_of}
use Rattle.nm_schema_typing.specs.TypeGraph as spec
use Rattle.nm_schema_typing.proofs.edges.type_graph.Given as goal

-- the rows so far lead where they must
abbrev pub invariant-loop-at : goal.invariant-loop-at
invariant-loop-at l = (length l.graph.items ≡ l.at) × ((i : ℕ) → i < length l.graph.items → successors_of l.graph.items i ≡ spec.leads l.rows l.typedefs i)
