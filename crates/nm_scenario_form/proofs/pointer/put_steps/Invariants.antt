use Rattle.std.proofs.Common.{◌≡◌, ◌++◌, ◌≤◌, length, take, drop}
use Rattle.std.specs.List.{flat_map}
use Rattle.nm_scenario_form.specs.Pointer.{step_text}
use Rattle.nm_scenario_form.proofs.pointer.put_steps.Given as goal

-- what is left goes on from what was written
abbrev pub invariant-loop-step : goal.invariant-loop-step
invariant-loop-step l = record {
  short : length l.front.items ≤ l.room;
  goes_on : take l.room (l.front.items ++ flat_map step_text (drop l.step-index l.place)) ≡ take l.room (l.fn.front.items ++ flat_map step_text l.place);
}
