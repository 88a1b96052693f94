use Rattle.std.proofs.Common.{ap, ◌∙◌}
use Rattle.std.specs.Prelude.{option_copied}
use Rattle.nm_config.specs.Rows.{next_of}
use Rattle.nm_overlay.specs.Differences.{overridden}
use Rattle.nm_overlay.proofs.overlay.OverlayRowMap.next_after.Goals as goal

pub returns : goal.returns
returns c = c.next_after.ensures ∙ ap (λ b. next_of (overridden b c.self.inside.pairs) (option_copied c.args.path)) c.deref.ensures
    ∙ ap (λ o. next_of o.rows (option_copied c.args.path)) c.self.view_is
