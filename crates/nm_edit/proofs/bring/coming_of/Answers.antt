use Rattle.std.proofs.Common.{◌++◌, sym, ap, ◌∙◌, append_assoc}
use Rattle.nm_edit.specs.Acts.{row_of, coming}
use Rattle.nm_edit.proofs.bring.coming_of.Goals as goal

pub loop-act-preserved : goal.loop-act-preserved
loop-act-preserved c =
    let rows = c.loop-act.rows.items in
    let left = c.next.new.self.rest.items in
    ap (λ rs. rs ++ coming left) c.in_ok-put_coming.ensures
    ∙ append_assoc rows (row_of c.in-Some.act) (coming left)
    ∙ ap (λ acts. rows ++ coming acts) (sym c.in-Some.ensures.steps.0)
    ∙ c.loop-act.invariant
