use Rattle.std.proofs.Common.{◌+◌, ◌∷◌, ◌++◌, List, map, drop, refl, ap, sym, ◌∙◌}
use Rattle.std.proofs.lemmas.List.{drop_more}
use Rattle.nm_types.specs.Path.{PathStep}
use Rattle.nm_validate_rules.specs.Candidates.{candidates}
use Rattle.nm_incremental.specs.Read.{present, read_of}
use Rattle.nm_incremental.proofs.Beside.{read_more}
use Rattle.nm_incremental.proofs.local.read_set.Goals as goal

pub loop-row-preserved : goal.loop-row-preserved
loop-row-preserved c =
    let t = c.args.schema.now in
    let rule = c.args.rule in
    let rows = c.args.differing.now in
    let rest = drop (c.loop-row.row-index + 1) rows in
    let next = drop_more rows c.loop-row.row-index c.row-item.result c.loop-row-test.true ∙ ap (λ (row : List PathStep). row ∷ rest) (sym c.row-item.is) in
    read_more t rule c.row-item.result rest (candidates t rule c.row-item.result) _ _ refl c.in_ok-put_row.ensures
    ∙ ap (λ rs. c.loop-row.all.items ++ map present (read_of t rule rs)) (sym next) ∙ c.loop-row.invariant
