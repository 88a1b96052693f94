use Rattle.nm_outcome_laws.proofs.records.Commits.{drained_commits}
use Rattle.nm_outcome_laws.proofs.records.drained_commits_are_recorded.Goals as goal

pub returns : goal.returns
returns g c = λ setting running events steps.
    drained_commits (g.C.Content.meaning c.args.content.now) (g.met.C.Content.laws c.args.content.now) setting running events steps
