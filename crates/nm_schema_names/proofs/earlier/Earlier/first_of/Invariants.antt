use Rattle.std.proofs.Common.{◌≡◌, drop, map}
use Rattle.std.specs.List.{find}
use Rattle.nm_schema_uses.specs.Arguments.{argument_at}
use Rattle.nm_schema_names.specs.Clash.{has_part, names_at}
use Rattle.nm_schema_names.proofs.earlier.Earlier.first_of.Given as goal

abbrev pub invariant-loop-node : goal.invariant-loop-node
invariant-loop-node l = find (has_part l.known l.self) (map (argument_at l.known.rows) (drop l.node-index l.node-items)) ≡ find (has_part l.known l.self) (names_at l.known l.at)
