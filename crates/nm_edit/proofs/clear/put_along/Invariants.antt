use Rattle.std.proofs.Common.{◌≡◌, ◌++◌, drop}
use Rattle.nm_edit.specs.Rivals.{ousted_from, ousted_by}
use Rattle.nm_edit.proofs.clear.put_along.Given as goal

abbrev pub invariant-loop-step : goal.invariant-loop-step
invariant-loop-step l = record {
  items : l.step-items ≡ l.path;
  left : l.nodes.items ++ ousted_from l.schema l.above (drop l.step-index l.step-items) ≡ l.fn.nodes.items ++ ousted_by l.schema l.path;
}
