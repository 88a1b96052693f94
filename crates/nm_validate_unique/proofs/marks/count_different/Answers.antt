use Rattle.std.proofs.Common.{ap, sym, rules, ◌∙◌}
use Rattle.std.proofs.lemmas.Cmp.{nat_cmp_total}
use Rattle.std.proofs.lemmas.List.{map-id}
use Rattle.std.proofs.lemmas.Iterator.{items_from_drains}
use Rattle.std.proofs.lemmas.Iterator.Adapters.{YieldsList-from_vec}
use Rattle.std.specs.Ordering.{nat_cmp}
use Rattle.std.specs.FinMap.{empty, len, nat_cmp-IsAntisymmetric}
use Rattle.nm_config.specs.Rows.{with_entries}
use Rattle.nm_config.proofs.Maps.{collected, len-from_entries}
use Rattle.nm_validate_unique.proofs.marks.count_different.Goals as goal

pub returns : goal.returns
returns c =
    let ran = c.in_ok-kept.ensures.ran in
    let items = sym (map-id ran.1) ∙ items_from_drains ran.1 ran.3 (YieldsList-from_vec c.args.marks.items ran.2.0 (ran.2.1 ∙ search rules)) in
    let is = collected nat_cmp_total nat_cmp-IsAntisymmetric ran.1 c.in_ok-kept.kept.entries ran.4.0 ∙ ap (with_entries (empty {R = nat_cmp})) items in
    c.len.ensures.len ∙ sym (len-from_entries nat_cmp_total nat_cmp-IsAntisymmetric c.in_ok-kept.kept.entries c.len.ensures.ordered) ∙ ap len is
