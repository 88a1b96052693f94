use Rattle.std.proofs.Common.{◌≡◌, drop, map}
use Rattle.std.specs.List.{list_any}
use Rattle.nm_schema_uses.specs.Arguments.{argument_at}
use Rattle.nm_schema_names.specs.Clash.{has_name, names_at}
use Rattle.nm_schema_names.proofs.earlier.meet_names.Given as goal

abbrev pub invariant-loop-node : goal.invariant-loop-node
invariant-loop-node l = list_any (has_name l.names) (map (argument_at l.known.rows) (drop l.node-index l.node-items)) ≡ list_any (has_name l.names) (names_at l.known l.at)
