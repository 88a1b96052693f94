use Rattle.std.proofs.Common.{◌∙◌, length, List, ℕ, subst}
use Rattle.nm_graph.specs.Graph.{Graph, successors_of}
use Rattle.nm_graph.specs.Value.{strict, Holds}
use Rattle.nm_schema_uses.specs.Config.{Marks, IsRooted, kept_of}
use Rattle.nm_schema_uses.specs.Sizes.{capped_count, capped_height}
use Rattle.nm_schema_uses.proofs.Configs.{marks-along}
use Rattle.nm_schema_uses.proofs.Worths.{are_worth}
use Rattle.nm_schema_uses.proofs.settings.settings_of.Goals as goal

pub returns : goal.returns
returns c = record {
  configured = marks-along (λ (next : ℕ → List ℕ). IsRooted next c.args.rows.now) (kept_of (successors_of c.args.graph.now) c.args.rows.now) (length c.args.graph.now) c.in_ok-kept.kept.items c.in_ok-configured.configured.items c.in_ok-kept.ensures.kept
      (subst (λ (g : Graph). Marks (IsRooted (successors_of g) c.args.rows.now) c.in_ok-configured.configured.items) c.deref-2.ensures.value c.in_ok-configured.ensures.marks);
  in_state = c.in_ok-in_state.ensures.marks;
  configured_rows = c.in_ok-configured.ensures.size;
  in_state_rows = c.in_ok-in_state.ensures.size;
  counts = are_worth (capped_count c.args.rows.now 20001) c.in_ok-kept.kept.items (kept_of (successors_of c.args.graph.now) c.args.rows.now) (length c.args.rows.now) c.in_ok-counts.counts.items
      c.in_ok-kept.ensures.kept.each (c.in_ok-kept.ensures.kept.size ∙ c.requires.size)
      (subst (λ (g : Graph). Holds (strict (capped_count c.args.rows.now 20001)) g c.in_ok-counts.counts.items) c.deref-3.ensures.value c.in_ok-counts.ensures);
  heights = are_worth (capped_height c.args.rows.now 66) c.in_ok-kept.kept.items (kept_of (successors_of c.args.graph.now) c.args.rows.now) (length c.args.rows.now) c.in_ok-heights.heights.items
      c.in_ok-kept.ensures.kept.each (c.in_ok-kept.ensures.kept.size ∙ c.requires.size)
      (subst (λ (g : Graph). Holds (strict (capped_height c.args.rows.now 66)) g c.in_ok-heights.heights.items) c.deref-5.ensures.value c.in_ok-heights.ensures);
}
