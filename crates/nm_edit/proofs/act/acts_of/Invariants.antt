use Rattle.std.proofs.Common.{◌≡◌, ◌++◌, drop}
use Rattle.std.specs.List.{flat_map}
use Rattle.nm_edit.specs.Standing.{said}
use Rattle.nm_edit.specs.Acts.{acts_at, acts}
use Rattle.nm_edit.proofs.act.acts_of.Given as goal

abbrev pub invariant-loop-node : goal.invariant-loop-node
invariant-loop-node l = record {
  items : l.node-items ≡ l.edit;
  left : l.acts.items ++ flat_map (acts_at (said l.edit) l.default_operation) (drop l.node-index l.node-items) ≡ acts l.edit l.default_operation;
}
