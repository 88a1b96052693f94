use Rattle.std.proofs.Common.{◌-◌, length, slice_get, ap, sym, ◌∙◌}
use Rattle.nm_types.specs.Path.{choice_values}
use Rattle.nm_validate_places.proofs.Lasts.{values_last}
use Rattle.nm_validate_places.proofs.keys.values_in.Goals as goal

pub returns-in-Some : goal.returns-in-Some
returns-in-Some c =
    let d = c.deref.ensures.value ∙ c.path.view_is in
    let e = ap (λ ss. slice_get ss (length ss - 1)) (sym d) ∙ sym c.in-Some.ensures.value in
    c.values_of.ensures ∙ ap (λ s. choice_values s.chosen) c.step.view_is ∙ sym (values_last c.args.path.now c.in-Some.step.now e)
