use Rattle.std.proofs.Common.{◌≡◌, drop}
use Rattle.nm_config.specs.Rows.{with_entries}
use Rattle.nm_undo.specs.Inverse.{fronts_from, fronts}
use Rattle.nm_undo.proofs.front.put_fronts.Given as goal

abbrev pub invariant-loop-step : goal.invariant-loop-step
invariant-loop-step l = record {
  items : l.step-items ≡ l.path;
  left : with_entries l.nodes (fronts_from l.schema l.above (drop l.step-index l.step-items)) ≡ with_entries l.fn.nodes (fronts l.schema l.path);
}
