use Rattle.std.proofs.Common.{◌≡◌, drop, map}
use Rattle.nm_schema_uses.specs.Arguments.{argument_at}
use Rattle.nm_schema_names.specs.Clash.{has_name}
use Rattle.nm_schema_names.proofs.known.has_name.Given as goal

abbrev pub invariant-loop-node : goal.invariant-loop-node
invariant-loop-node l = has_name (map (argument_at l.rows) (drop l.node-index l.nodes)) l.name ≡ has_name (map (argument_at l.rows) l.nodes) l.name
