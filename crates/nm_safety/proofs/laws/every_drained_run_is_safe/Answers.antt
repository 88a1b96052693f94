use Rattle.nm_safety.proofs.Drained.{drained_safe}
use Rattle.nm_safety.proofs.laws.every_drained_run_is_safe.Goals as goal

pub returns : goal.returns
returns g c = λ setting running events steps. drained_safe (g.C.Content.meaning c.args.content.now) (g.met.C.Content.laws c.args.content.now) setting running events steps
