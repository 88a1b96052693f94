use Rattle.std.proofs.Common.{sym, ap, ◌∙◌}
use Rattle.nm_config.specs.Rows.{with_entries}
use Rattle.nm_edit.proofs.bring.put_rows.Goals as goal

pub loop-path-preserved : goal.loop-path-preserved
loop-path-preserved g c = record {
  left = ap (λ rows. with_entries rows c.next.new.self.rest.items) c.in_ok-put.ensures.ok
      ∙ ap (with_entries (g.M.RowMap.rows c.loop-path.config)) (sym c.in-Some.ensures.steps.0)
      ∙ c.loop-path.invariant.left;
  base = c.in_ok-put.ensures.base ∙ c.loop-path.invariant.base;
}
