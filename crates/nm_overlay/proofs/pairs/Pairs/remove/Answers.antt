use Rattle.std.proofs.Common.{ap, sym, subst, ◌∙◌}
use Rattle.std.specs.Prelude.{not}
use Rattle.std.specs.Ordering.{eq_by_cmp}
use Rattle.std.specs.FinMap as map
use Rattle.std.specs.FinMap.Entries.{is_sorted-where_key}
use Rattle.nm_types.specs.Path.{path_cmp}
use Rattle.nm_overlay.specs.Places.{Ascends}
use Rattle.nm_overlay.proofs.Mapped.{mapped-remove}
use Rattle.nm_overlay.proofs.pairs.Pairs.remove.Goals as goal

pub invariant_of-self : goal.invariant_of-self
invariant_of-self c = subst Ascends (sym c.remove.ensures) (is_sorted-where_key path_cmp (λ other. not (eq_by_cmp path_cmp c.args.path.now other)) c.self.inside.sorted.items c.self.invariant)

pub returns : goal.returns
returns c = ap map.from_entries c.remove.ensures ∙ mapped-remove c.args.path.now c.self.inside.sorted.items
    ∙ ap (λ m. map.remove m c.args.path.now) c.self.view_is
