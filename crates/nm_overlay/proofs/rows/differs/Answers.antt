use Rattle.std.proofs.Common.{sym, ap, ◌∙◌}
use Rattle.std.specs.Prelude.{option_copied}
use Rattle.nm_overlay.specs.Differences.{differs}
use Rattle.nm_overlay.proofs.Changed.{told_differs}
use Rattle.nm_overlay.proofs.rows.differs.Goals as goal

pub returns-in-Some : goal.returns-in-Some
returns-in-Some c = told_differs (option_copied c.args.before) c.in-Some.value c.is_value.result c.is_value.ensures
    ∙ ap (differs (option_copied c.args.before)) (sym c.in-Some.is)
