use Rattle.std.proofs.Common.{sym, ap, ◌∙◌}
use Rattle.nm_config.specs.Rows.{with_entries}
use Rattle.nm_undo.proofs.front.put_all.Goals as goal

pub loop-path-preserved : goal.loop-path-preserved
loop-path-preserved c =
    ap (λ m. with_entries m c.next.new.self.rest.items) c.in_ok-put.ensures
    ∙ ap (with_entries c.loop-path.nodes) (sym c.in-Some.ensures.steps.0)
    ∙ c.loop-path.invariant
