use Rattle.std.proofs.Common.{ap, sym, ◌∙◌}
use Rattle.std.specs.FinMap as map
use Rattle.nm_flat.proofs.Maps.{entries-from_entries}
use Rattle.nm_flat.proofs.number_map.NumberMap.iter.Goals as goal

pub returns-clause-entries : goal.returns-clause-entries
returns-clause-entries g c = c.iter.ensures.rest ∙ sym (entries-from_entries c.self.inside.tree.entries c.iter.ensures.ordered) ∙ ap map.entries c.self.view_is
