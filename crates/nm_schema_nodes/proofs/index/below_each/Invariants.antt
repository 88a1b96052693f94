use Rattle.std.proofs.Common.{length, take}
use Rattle.nm_schema_nodes.specs.Expansion.{is_below}
use Rattle.nm_schema_nodes.proofs.Indexing.{IsListed}
use Rattle.nm_schema_nodes.proofs.index.below_each.Given as goal

abbrev pub invariant-loop-at : goal.invariant-loop-at
invariant-loop-at l = IsListed is_below (length l.nodes) (take l.at l.nodes) l.below.items
