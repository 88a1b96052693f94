use Rattle.std.proofs.Common.{ap, ◌∙◌}
use Rattle.std.specs.Prelude.{filter}
use Rattle.std.specs.FinMap.{empty, entries}
use Rattle.nm_config.specs.Rows.{with_entries}
use Rattle.nm_overlay.specs.Differences.{differences}
use Rattle.nm_edit.specs.Said.{said, is_change}
use Rattle.nm_edit.proofs.Paths.{said_makes}
use Rattle.nm_edit.proofs.Exact.{exact_changes}
use Rattle.nm_edit.proofs.told.changes_by.Goals as goal

pub returns : goal.returns
returns g c =
    let old = g.M.RowMap.rows c.args.rows.now in
    c.in_ok-changes.ensures
    ∙ ap (λ w. filter (is_change old) (entries w)) (c.in_ok-sayings.ensures ∙ ap (with_entries empty) c.in_ok-pairs.ensures)
    ∙ exact_changes old (with_entries empty (said old c.args.moves.now))
    ∙ ap (λ m. entries (differences old m)) (said_makes old c.args.moves.now)
