use Rattle.std.proofs.Common.{ap, ◌∙◌}
use Rattle.std.specs.FinMap as map
use Rattle.nm_flat.specs.NumberMap.{with_entries}
use Rattle.nm_flat.proofs.Maps.{with_own_entries}
use Rattle.nm_flat.proofs.number_map.NumberMap.copy.Goals as goal

pub loop-number-init : goal.loop-number-init
loop-number-init g c = ap (with_entries c.new-copied.result) (c.into_iter-number-iterator.ensures.into_iter_gives ∙ c.iter-number-items.ensures.entries)
    ∙ ap (λ m. with_entries m (map.entries c.args.self.now)) c.new-copied.ensures ∙ with_own_entries c.args.self.now
