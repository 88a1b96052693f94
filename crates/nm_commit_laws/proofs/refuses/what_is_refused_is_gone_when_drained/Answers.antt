use Rattle.nm_commit_laws.proofs.refuses.Drained.{drained_refuses}
use Rattle.nm_commit_laws.proofs.refuses.what_is_refused_is_gone_when_drained.Goals as goal

pub returns : goal.returns
returns g c = λ setting running events steps proper. drained_refuses (g.C.Content.meaning c.args.content.now) (g.met.C.Content.laws c.args.content.now) setting running events steps proper
