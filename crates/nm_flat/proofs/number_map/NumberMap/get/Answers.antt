use Rattle.std.proofs.Common.{ap, sym, ◌∙◌}
use Rattle.std.specs.FinMap as map
use Rattle.nm_flat.proofs.Maps.{get_number}
use Rattle.nm_flat.proofs.number_map.NumberMap.get.Goals as goal

pub returns : goal.returns
returns g c = c.copied.ensures ∙ c.get.ensures.value ∙ sym (get_number c.self.inside.tree.entries c.args.number) ∙ ap (λ m. map.get m c.args.number) c.self.view_is
