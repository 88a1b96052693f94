use Rattle.nm_commit_laws.proofs.marks.Remains.{drained_stays}
use Rattle.nm_commit_laws.proofs.marks.drained_marks_stay.Goals as goal

pub returns : goal.returns
returns g c = λ setting running events steps.
    drained_stays (g.C.Content.meaning c.args.content.now) (g.met.C.Content.laws c.args.content.now) setting running events steps
