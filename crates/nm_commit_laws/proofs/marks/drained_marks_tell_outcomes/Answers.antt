use Rattle.nm_commit_laws.proofs.marks.Drained.{drained_tells}
use Rattle.nm_commit_laws.proofs.marks.drained_marks_tell_outcomes.Goals as goal

pub returns : goal.returns
returns g c = λ setting running events steps.
    drained_tells (g.C.Content.meaning c.args.content.now) (g.met.C.Content.laws c.args.content.now) setting running events steps
