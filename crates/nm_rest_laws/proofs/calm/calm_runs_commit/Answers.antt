use Rattle.nm_rest_laws.proofs.calm.Rests.{calm_commits}
use Rattle.nm_rest_laws.proofs.calm.calm_runs_commit.Goals as goal

pub returns : goal.returns
returns g c = λ setting running plan steps calm rest. calm_commits (g.C.Content.meaning c.args.content.now) setting running plan calm steps rest
