use Rattle.std.proofs.Common.{◌-◌, length, slice_get, ap, sym, ◌∙◌}
use Rattle.nm_validate_rules.specs.Violated.{is_entry}
use Rattle.nm_validate_places.proofs.Lasts.{chosen_last}
use Rattle.nm_validate_places.proofs.value_types.is_own_entry.Goals as goal

pub returns-in-Some : goal.returns-in-Some
returns-in-Some c =
    let d = c.deref.ensures.value ∙ c.path.view_is in
    let e = ap (λ ss. slice_get ss (length ss - 1)) (sym d) ∙ sym c.in-Some.ensures.value in
    c.is_entry.ensures ∙ ap (λ s. is_entry s.chosen c.args.value.now) c.step.view_is ∙ ap (λ x. is_entry x c.args.value.now) (sym (chosen_last c.args.path.now c.in-Some.step.now e))
