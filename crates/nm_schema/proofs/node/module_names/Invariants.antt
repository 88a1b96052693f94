use Rattle.std.proofs.Common.{◌≡◌, map, take}
use Rattle.nm_schema_uses.specs.Arguments.{argument_at}
use Rattle.nm_schema.proofs.node.module_names.Given as goal

abbrev pub invariant-loop-root : goal.invariant-loop-root
invariant-loop-root l = l.names.items ≡ map (argument_at l.rows) (take l.root-index l.root-items)
