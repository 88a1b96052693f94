use Rattle.std.proofs.Common.{ℕ, List, true, false, slice_index_or, subst, ◌↔◌, ◌≡◌}
use Rattle.nm_graph.specs.Graph.{ReachedFrom}
use Rattle.nm_schema_uses.proofs.Configs.{rooted-marks}
use Rattle.nm_schema_uses.proofs.config.rooted.Goals as goal

pub returns-clause-marks : goal.returns-clause-marks
returns-clause-marks c = rooted-marks c.args.graph.now c.args.rows.now c.in_ok-marks.marks.items
    (subst (λ (starts : List ℕ). (i : ℕ) → (slice_index_or c.in_ok-marks.marks.items i false ≡ true) ↔ ReachedFrom c.args.graph.now starts i) c.roots.ensures c.in_ok-marks.ensures.exactly)
