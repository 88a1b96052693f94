use Rattle.std.proofs.Common.{ap, sym, ◌∙◌}
use Rattle.std.specs.FinMap as map
use Rattle.nm_flat.proofs.Maps.{len-from_entries}
use Rattle.nm_flat.proofs.number_map.NumberMap.len.Goals as goal

pub returns : goal.returns
returns g c = c.len.ensures.len ∙ sym (len-from_entries c.self.inside.tree.entries c.len.ensures.ordered) ∙ ap map.len c.self.view_is
