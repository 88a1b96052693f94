use Rattle.std.proofs.Common.{◌≡◌, drop}
use Rattle.std.specs.List.{list_any}
use Rattle.nm_content.specs.Mark.{is_in_marker, names_marks}
use Rattle.nm_content.proofs.mark.names_marks.Given as goal

-- the nodes that are left decide, as all do
abbrev pub invariant-loop-node : goal.invariant-loop-node
invariant-loop-node l = record {
  items : l.node-items ≡ l.edit;
  left : list_any (λ n. is_in_marker n.path) (drop l.node-index l.node-items) ≡ names_marks l.edit;
}
