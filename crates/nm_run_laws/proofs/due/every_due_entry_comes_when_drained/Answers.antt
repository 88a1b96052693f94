use Rattle.nm_run_laws.specs.Due.{ComesWhenDue}
use Rattle.nm_safety.proofs.Drained.{drained_too}
use Rattle.nm_run_laws.proofs.Written.{run_comes}
use Rattle.nm_run_laws.proofs.due.every_due_entry_comes_when_drained.Goals as goal

pub returns : goal.returns
returns g c = λ setting running events steps.
    let m = g.C.Content.meaning c.args.content.now in
    let laws = g.met.C.Content.laws c.args.content.now in
    drained_too m laws setting running ComesWhenDue (run_comes m laws setting running) events steps
