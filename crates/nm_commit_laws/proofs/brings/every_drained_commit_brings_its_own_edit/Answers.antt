use Rattle.nm_commit_laws.proofs.brings.Drained.{drained_brings}
use Rattle.nm_commit_laws.proofs.brings.every_drained_commit_brings_its_own_edit.Goals as goal

pub returns : goal.returns
returns g c = λ setting running events steps.
    drained_brings (g.C.Content.meaning c.args.content.now) (g.met.C.Content.laws c.args.content.now) setting running events steps
