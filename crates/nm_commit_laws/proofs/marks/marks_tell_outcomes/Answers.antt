use Rattle.nm_commit_laws.proofs.marks.Alone.{run_tells}
use Rattle.nm_commit_laws.proofs.marks.marks_tell_outcomes.Goals as goal

pub returns : goal.returns
returns g c = λ setting running events proper.
    run_tells (g.C.Content.meaning c.args.content.now) (g.met.C.Content.laws c.args.content.now) setting running events proper
