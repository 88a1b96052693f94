use Rattle.std.specs.Prelude.{option_copied}
use Rattle.nm_overlay.proofs.Changed.{told_differs}
use Rattle.nm_undo.proofs.since.is_not.Goals as goal

pub returns : goal.returns
returns c = told_differs (option_copied c.args.there) c.args.value.now c.is_value.result c.is_value.ensures
