use Rattle.std.proofs.Common.{◌≡◌, drop}
use Rattle.nm_edit.specs.Standing.{standing_from, standing}
use Rattle.nm_edit.proofs.standing.standing_at.Given as goal

abbrev pub invariant-loop-step : goal.invariant-loop-step
invariant-loop-step l = record {
  items : l.step-items ≡ l.path;
  left : standing_from l.said l.found l.front (drop l.step-index l.step-items) ≡ standing l.said l.fn.default_operation l.path;
}
