use Rattle.std.proofs.Common.{map, slice_get, ap, sym, ◌∙◌}
use Rattle.std.specs.List.{flat_map}
use Rattle.std.specs.FinMap.{empty}
use Rattle.nm_validate_places.specs.Least.{least_with}
use Rattle.nm_validate_unique.specs.Repeated.{repeated}
use Rattle.nm_validate_unique.proofs.Repeated.{none_repeated, group_repeated}
use Rattle.nm_validate_unique.proofs.unique.least_at_node.Goals as goal

pub returns-in_default : goal.returns-in_default
returns-in_default g c =
    ap (least_with c.args.found) (sym (none_repeated c.args.schema.now (g.M.RowMap.rows c.args.config.now) c.args.grouped.now.groups.items c.args.at (ap (λ gs. slice_get gs c.args.at) (sym c.deref.ensures.value) ∙ c.in_default.ensures)))

pub returns : goal.returns
returns g c =
    let t = c.args.schema.now in
    let rows = g.M.RowMap.rows c.args.config.now in
    c.in_ok-least.ensures
    ∙ ap (λ l. least_with c.args.found (flat_map (λ leafs. repeated t rows leafs empty (map (λ entry. entry.now) l)) c.uniques-uniques.result.now)) c.deref-2.ensures.value
    ∙ ap (λ l. least_with c.args.found (flat_map (λ leafs. repeated t rows leafs empty (map (λ entry. entry.now) c.in-Some.entries.now.items)) l)) c.uniques-uniques.ensures
    ∙ ap (least_with c.args.found) (group_repeated t rows c.args.grouped.now.groups.items c.args.at c.in-Some.entries.now (ap (λ gs. slice_get gs c.args.at) (sym c.deref.ensures.value) ∙ c.in-Some.ensures))
