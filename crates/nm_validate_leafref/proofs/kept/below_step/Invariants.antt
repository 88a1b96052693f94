use Rattle.std.proofs.Common.{◌≡◌, ◌∷◌, take}
use Rattle.nm_validate_leafref.proofs.kept.below_step.Given as goal

abbrev pub invariant-loop-step : goal.invariant-loop-step
invariant-loop-step l = record { items : l.step-items ≡ l.place; copied : l.steps.items ≡ l.fn.first ∷ take l.step-index l.step-items }
