use Rattle.std.proofs.Common.{◌≡◌, drop, nat_lt}
use Rattle.serde_json.specs.View.{items_view}
use Rattle.nm_scenario_form.specs.Says.{total}
use Rattle.nm_scenario_form.proofs.items.is_too_heavy.Given as goal

-- what is left is too heavy for the rest exactly where all is too heavy
abbrev pub invariant-loop-item : goal.invariant-loop-item
invariant-loop-item g l =
    nat_lt l.left (total (g.W.Weigh.weight l.scale) (items_view (drop l.item-index l.items))) ≡ nat_lt l.fn.most (total (g.W.Weigh.weight l.fn.scale) (items_view l.fn.items))
