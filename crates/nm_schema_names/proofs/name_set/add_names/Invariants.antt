use Rattle.std.proofs.Common.{◌≡◌, ◌||◌, List, ℕ, drop, map}
use Rattle.nm_schema_uses.specs.Arguments.{argument_at}
use Rattle.nm_schema_names.specs.Clash.{has_name}
use Rattle.nm_schema_names.proofs.name_set.add_names.Given as goal

abbrev pub invariant-loop-node : goal.invariant-loop-node
invariant-loop-node l = (n : List ℕ) → (has_name (map (argument_at l.rows) (drop l.node-index l.nodes)) n || has_name l.names n) ≡ (has_name (map (argument_at l.rows) l.nodes) n || has_name l.initial.names n)
