use Rattle.std.proofs.Common.{◌-◌, length, slice_get, ap, sym, ◌∙◌}
use Rattle.nm_config.specs.Under.{is_whole}
use Rattle.nm_validate_places.proofs.Lasts.{chosen_last}
use Rattle.nm_validate_places.proofs.values.is_whole.Goals as goal

pub returns-in-Some : goal.returns-in-Some
returns-in-Some c =
    let d = c.deref.ensures.value ∙ c.path.view_is in
    let e = ap (λ ss. slice_get ss (length ss - 1)) (sym d) ∙ sym c.in-Some.ensures.value in
    c.is_none_chosen.ensures ∙ ap (λ s. is_whole s.chosen) c.step.view_is ∙ ap is_whole (sym (chosen_last c.args.path.now c.in-Some.step.now e))
