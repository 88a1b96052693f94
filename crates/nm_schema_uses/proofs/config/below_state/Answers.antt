use Rattle.std.proofs.Common.{ℕ, List, true, false, slice_index_or, subst, ◌↔◌, ◌≡◌}
use Rattle.nm_graph.specs.Graph.{ReachedFrom}
use Rattle.nm_schema_uses.proofs.Configs.{state-marks}
use Rattle.nm_schema_uses.proofs.config.below_state.Goals as goal

pub returns-clause-marks : goal.returns-clause-marks
returns-clause-marks c = state-marks c.args.graph.now c.args.rows.now c.in_ok-states.states.items c.in_ok-marks.marks.items c.in_ok-states.ensures.each c.in_ok-states.ensures.listed
    (subst (λ (starts : List ℕ). (i : ℕ) → (slice_index_or c.in_ok-marks.marks.items i false ≡ true) ↔ ReachedFrom c.args.graph.now starts i) c.deref.ensures.value c.in_ok-marks.ensures.exactly)
