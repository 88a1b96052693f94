use Rattle.nm_commit_laws.proofs.marks.Remains.{run_stays}
use Rattle.nm_commit_laws.proofs.marks.marks_stay.Goals as goal

pub returns : goal.returns
returns g c = λ setting running events.
    run_stays (g.C.Content.meaning c.args.content.now) (g.met.C.Content.laws c.args.content.now) setting running events
