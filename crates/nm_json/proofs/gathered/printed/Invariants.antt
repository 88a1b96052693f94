use Rattle.std.proofs.Common.{◌≡◌, ◌++◌, drop}
use Rattle.nm_json.specs.Places.{printed}
use Rattle.nm_json.proofs.gathered.printed.Given as goal

-- what was copied and what is left make the whole
abbrev pub invariant-loop-step : goal.invariant-loop-step
invariant-loop-step l = l.all.items ++ drop l.step-index l.rest ≡ printed l.fn.steps
