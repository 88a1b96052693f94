use Rattle.std.proofs.Common.{ap, sym, rules, ◌∙◌}
use Rattle.std.proofs.lemmas.List.{map-id}
use Rattle.std.proofs.lemmas.Iterator.{items_from_drains}
use Rattle.std.proofs.lemmas.Iterator.Adapters.{YieldsList-from_vec}
use Rattle.std.specs.FinMap as map
use Rattle.nm_types.specs.PathLaws.{paths_total, path_cmp-IsAntisymmetric}
use Rattle.nm_config.specs.Rows.{with_entries}
use Rattle.nm_config.proofs.Maps.{collected}
use Rattle.nm_edit.proofs.sayings.Sayings.of_pairs.Goals as goal

pub returns : goal.returns
returns c =
    let ran = c.in_ok-tree.ensures.ran in
    let items = sym (map-id ran.1) ∙ items_from_drains ran.1 ran.3 (YieldsList-from_vec c.args.pairs.items ran.2.0 (ran.2.1 ∙ search rules)) in
    collected paths_total path_cmp-IsAntisymmetric ran.1 c.in_ok-tree.tree.entries ran.4.0 ∙ ap (with_entries map.empty) items
