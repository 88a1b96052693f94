use Rattle.std.proofs.Common.{List, ◌++◌, refl, ap, ◌∙◌}
use Rattle.std.specs.Prelude.{filter}
use Rattle.std.specs.FinMap.{contains_key, keys}
use Rattle.nm_types.specs.Path.{PathStep}
use Rattle.nm_config.specs.Under.{is_under}
use Rattle.nm_validate_places.specs.Counts.{behind}
use Rattle.nm_incremental.proofs.Walks.{rows_are}
use Rattle.nm_incremental.proofs.differing.rows_at.Goals as goal

pub returns : goal.returns
returns g c =
    let rows = g.M.RowMap.rows c.args.config.now in
    let node = c.args.node.now in
    c.in_ok-put_behind.ensures ∙ ap (λ (l : List (List PathStep)). l ++ filter (is_under node) (behind node (keys rows))) c.in_ok-all.ensures ∙ rows_are node rows (contains_key rows node) refl
