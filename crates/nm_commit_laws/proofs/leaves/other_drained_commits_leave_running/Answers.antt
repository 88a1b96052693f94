use Rattle.nm_commit_laws.proofs.leaves.Drained.{drained_leaves}
use Rattle.nm_commit_laws.proofs.leaves.other_drained_commits_leave_running.Goals as goal

pub returns : goal.returns
returns g c = λ setting running events steps. drained_leaves (g.C.Content.meaning c.args.content.now) (g.met.C.Content.laws c.args.content.now) setting running events steps
