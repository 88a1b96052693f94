use Rattle.std.proofs.Common.{List, ◌++◌, not, ap, ◌∙◌, append_assoc}
use Rattle.std.specs.Prelude.{filter}
use Rattle.std.specs.FinMap.{contains_key}
use Rattle.nm_types.specs.Path.{PathStep}
use Rattle.nm_incremental.specs.Differing.{rows_at, differs}
use Rattle.nm_incremental.proofs.differing.put_differing.Goals as goal

pub returns : goal.returns
returns g c =
    let base = g.B.RowMap.rows c.args.base.now in
    let next = g.M.RowMap.rows c.args.next.now in
    let added = λ (row : List PathStep). not (contains_key base row) in
    c.in_ok-put_added.ensures
    ∙ ap (λ (l : List (List PathStep)). l ++ filter added c.in_ok-after.after.items) c.in_ok-put_changed.ensures
    ∙ append_assoc c.args.all.now.items (filter (differs base next) c.in_ok-before.before.items) (filter added c.in_ok-after.after.items)
    ∙ ap (λ (l : List (List PathStep)). c.args.all.now.items ++ (filter (differs base next) l ++ filter added c.in_ok-after.after.items)) c.in_ok-before.ensures
    ∙ ap (λ (l : List (List PathStep)). c.args.all.now.items ++ (filter (differs base next) (rows_at base c.args.node.now) ++ filter added l)) c.in_ok-after.ensures
