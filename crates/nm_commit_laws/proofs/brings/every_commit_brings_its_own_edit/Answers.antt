use Rattle.nm_commit_laws.proofs.brings.Alone.{run_brings}
use Rattle.nm_commit_laws.proofs.brings.every_commit_brings_its_own_edit.Goals as goal

pub returns : goal.returns
returns g c = λ setting running events proper.
    run_brings (g.C.Content.meaning c.args.content.now) (g.met.C.Content.laws c.args.content.now) setting running events proper
