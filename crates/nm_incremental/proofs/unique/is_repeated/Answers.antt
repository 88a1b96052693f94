use Rattle.std.proofs.Common.{◌≡◌, Bool, Some, IfOk, sym, subst, ap, ◌∙◌}
use Rattle.nm_validate_rules.specs.Values.{is_repeated, unique_values}
use Rattle.nm_validate_unique.specs.Repeated.{items_in}
use Rattle.nm_incremental.specs.Repeats.{is_repeated_by}
use Rattle.nm_incremental.proofs.Loops.{any_grouped}
use Rattle.nm_incremental.proofs.unique.is_repeated.Goals as goal

pub returns : goal.returns
returns g c =
    let t = c.args.schema.now in
    let rows = g.M.RowMap.rows c.args.config.now in
    let entry = c.args.entry.now in
    let leafs = c.args.leafs.now in
    let there : Some c.deref.result.now ≡ unique_values t rows entry leafs = ap Some c.deref.ensures.value ∙ sym (ap items_in c.in-Some.is) ∙ c.in_ok-found.ensures in
    subst (λ (b : Bool). IfOk c.is_repeated_in.result (λ is. is ≡ b)) (
    any_grouped t rows c.args.grouped.now c.as_slice-rows.result.now (is_repeated_by t rows entry leafs c.deref.result.now) c.as_slice-rows.ensures.value c.requires
    ∙ ap (is_repeated t rows entry leafs) there) c.is_repeated_in.ensures
