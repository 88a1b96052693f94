use Rattle.std.proofs.Common.{◌≡◌, take}
use Rattle.nm_schema_uses.proofs.passing.copied.Given as goal

abbrev pub invariant-loop-nodes : goal.invariant-loop-nodes
invariant-loop-nodes l = l.copies.items ≡ take l.nodes-index l.known
