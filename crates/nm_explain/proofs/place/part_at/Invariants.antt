use Rattle.std.proofs.Common.{◌≡◌, drop}
use Rattle.serde_json.specs.View.{view}
use Rattle.nm_scenario_form.specs.Places.{walked}
use Rattle.nm_explain.proofs.place.part_at.Given as goal

abbrev pub invariant-loop-step : goal.invariant-loop-step
invariant-loop-step l = walked (drop l.step-index l.fn.place) (view l.part) ≡ walked l.fn.place (view l.fn.whole)
