use Rattle.std.proofs.Common.{map, ap, ◌∙◌, false}
use Rattle.nm_history.specs.declared.outcome.Outcome.TheVariants.{Never}
use Rattle.nm_history.specs.Outcome.{outcome_of}
use Rattle.nm_history.proofs.Tellings.{told_alike}
use Rattle.nm_history.proofs.telling.Telling.outcome.Goals as goal

pub returns : goal.returns
returns g c =
    let token = c.args.token.now in
    c.outcome_by.ensures ∙ ap (λ entries. outcome_of token (map (λ entry. entry.now) entries)) c.as_slice.ensures.value ∙ ap (outcome_of token) c.self.invariant
    ∙ ap (λ s. s.outcome) (told_alike token (record { outcome = Never; other = false }) c.self.inside.recorded.now.history) ∙ ap (λ r. outcome_of token r.history) c.self.view_is
