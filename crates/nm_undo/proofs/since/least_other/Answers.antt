use Rattle.std.proofs.Common.{fold, sym, ap, ◌∙◌}
use Rattle.nm_undo.specs.Since.{noted, differs_at}
use Rattle.nm_undo.proofs.since.least_other.Goals as goal

pub loop-pair-preserved : goal.loop-pair-preserved
loop-pair-preserved g c =
    let test = differs_at (g.M.RowMap.rows c.args.made.now) (g.M.RowMap.rows c.args.later.now) in
    ap (λ o. fold (noted test) o c.next.new.self.rest.items) c.noted-least.ensures
    ∙ ap (fold (noted test) c.loop-pair.least) (sym c.in-Some.ensures.steps.0)
    ∙ c.loop-pair.invariant
