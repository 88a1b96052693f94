use Rattle.std.proofs.Common.{◌≡◌, ◌-◌, length, take, ap, ◌∙◌}
use Rattle.nm_validate_rules.specs.Guards.{front}
use Rattle.nm_validate_places.proofs.Lasts.{front_is}
use Rattle.nm_validate_places.proofs.too_few.front.Goals as goal

pub returns : goal.returns
returns c =
    let steps = c.above.inside.steps in
    let long : steps.len ≡ length steps.items = steps.ok.0 in
    c.pop.ensures.rest ∙ ap (λ n. take (n - 1) steps.items) long ∙ front_is steps.items ∙ ap front (c.above.view_is ∙ c.in_ok-above.ensures)
