use Rattle.std.proofs.Common.{ap, sym, ◌∙◌}
use Rattle.std.specs.FinMap as map
use Rattle.nm_overlay.proofs.Mapped.{entries-mapped}
use Rattle.nm_overlay.proofs.pairs.Pairs.all.Goals as goal

pub returns : goal.returns
returns c = c.deref.ensures.value ∙ sym (entries-mapped c.self.inside.sorted.items c.self.invariant) ∙ ap map.entries c.self.view_is
