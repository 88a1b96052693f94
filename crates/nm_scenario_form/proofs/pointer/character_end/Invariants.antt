use Rattle.std.proofs.Common.{◌≡◌}
use Rattle.nm_scenario_form.specs.Pointer.{cut_place}
use Rattle.nm_scenario_form.proofs.pointer.character_end.Given as goal

-- no character ends between here and the limit
abbrev pub invariant-loop-end : goal.invariant-loop-end
invariant-loop-end l = cut_place l.text l.end ≡ cut_place l.fn.text l.fn.limit

abbrev pub decreases-loop-end : goal.decreases-loop-end
decreases-loop-end l = l.end
