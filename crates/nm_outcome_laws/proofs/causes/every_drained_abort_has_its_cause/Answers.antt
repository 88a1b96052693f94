use Rattle.nm_outcome_laws.proofs.causes.Runs.{drained_has_causes}
use Rattle.nm_outcome_laws.proofs.causes.every_drained_abort_has_its_cause.Goals as goal

pub returns : goal.returns
returns g c = λ setting running events steps proper. drained_has_causes (g.C.Content.meaning c.args.content.now) (g.met.C.Content.laws c.args.content.now) setting running events proper steps
