use Rattle.std.proofs.Common.{◌≡◌, ◌+◌, Some, length}
use Rattle.nm_schema_leafref.specs.Place.{levels_within}
use Rattle.nm_schema_leafref.proofs.tree.Tree.levels_of.Given as goal

-- the levels so far, and those from here on
abbrev pub invariant-loop-left : goal.invariant-loop-left
invariant-loop-left l = record {
  steps : l.levels + l.left ≡ length l.self.nodes;
  rest : levels_within (length l.self.nodes) l.self.nodes (Some l.at) ≡ levels_within l.left l.self.nodes l.spot + l.levels;
}

abbrev pub decreases-loop-left : goal.decreases-loop-left
decreases-loop-left l = l.left
