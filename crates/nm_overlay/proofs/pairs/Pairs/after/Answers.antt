use Rattle.std.proofs.Common.{ap, sym, ◌∙◌}
use Rattle.std.specs.Prelude.{filter, option_copied}
use Rattle.std.specs.FinMap as map
use Rattle.nm_overlay.specs.Places.{Pair, is_after}
use Rattle.nm_overlay.proofs.Mapped.{entries-mapped}
use Rattle.nm_overlay.proofs.pairs.Pairs.after.Goals as goal

pub returns : goal.returns
returns c = c.after.ensures ∙ ap (filter (λ (pair : Pair). is_after (option_copied c.args.path) pair.0)) (
    c.deref.ensures.value ∙ sym (entries-mapped c.self.inside.sorted.items c.self.invariant) ∙ ap map.entries c.self.view_is)
