use Rattle.std.proofs.Common.{ap, sym, ◌∙◌}
use Rattle.std.specs.Prelude.{filter, option_copied}
use Rattle.nm_overlay.specs.Places.{Pair, is_after}
use Rattle.nm_overlay.proofs.Fronts.{all_after_none}
use Rattle.nm_overlay.proofs.places.after.Goals as goal

pub returns-in-None : goal.returns-in-None
returns-in-None c = all_after_none c.args.pairs.now
    ∙ ap (λ o. filter (λ (pair : Pair). is_after (option_copied o) pair.0) c.args.pairs.now) (sym c.in-None.is)
