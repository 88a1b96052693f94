use Rattle.std.proofs.Common.{◌≡◌, List, [], ◌∷◌, ◌++◌, drop, map}
use Rattle.nm_types.specs.Path.{PathStep}
use Rattle.nm_validate_rules.specs.Places.{choice_step}
use Rattle.nm_incremental.proofs.candidates.put_choice.Given as goal

abbrev pub invariant-loop-above : goal.invariant-loop-above
invariant-loop-above l =
    l.paths.items ++ map (λ (above : List PathStep). above ++ choice_step l.choice ∷ []) (drop l.above-index l.areas)
    ≡ l.fn.paths.items ++ map (λ (above : List PathStep). above ++ choice_step l.choice ∷ []) l.areas
