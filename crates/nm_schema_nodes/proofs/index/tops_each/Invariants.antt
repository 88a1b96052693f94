use Rattle.std.proofs.Common.{take}
use Rattle.nm_schema_nodes.specs.Expansion.{is_top}
use Rattle.nm_schema_nodes.proofs.Indexing.{IsListed}
use Rattle.nm_schema_nodes.proofs.index.tops_each.Given as goal

abbrev pub invariant-loop-at : goal.invariant-loop-at
invariant-loop-at l = IsListed is_top l.count (take l.at l.nodes) l.tops.items
