use Rattle.std.proofs.Common.{List, sym, ap, ◌∙◌}
use Rattle.std.specs.Ordering.{eq_by_cmp}
use Rattle.std.proofs.lemmas.List.Filters.{dedup_is}
use Rattle.std.proofs.lemmas.List.Sorted.{list_any-IsPermutation}
use Rattle.nm_types.specs.Path.{path_cmp}
use Rattle.nm_config.specs.Under.{is_under}
use Rattle.nm_edit.specs.Laws.{goes}
use Rattle.nm_overlay.proofs.Order.{Place}
use Rattle.nm_edit.proofs.Nodes.{goes_dedup}
use Rattle.nm_undo.proofs.since.distinct.Goals as goal

pub returns : goal.returns
returns c = λ q.
    ap (λ (ns : List Place). goes ns q) (dedup_is (eq_by_cmp path_cmp) _ _ c.dedup.ensures.filtered)
    ∙ goes_dedup c.sort.new.self.items q
    ∙ sym (list_any-IsPermutation (λ node. is_under node q) _ _ c.in_ok-sort.ensures.permutation)
