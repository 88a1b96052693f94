use Rattle.nm_run_laws.proofs.Written.{run_comes}
use Rattle.nm_run_laws.proofs.due.every_due_entry_comes.Goals as goal

pub returns : goal.returns
returns g c = λ setting running events. run_comes (g.C.Content.meaning c.args.content.now) (g.met.C.Content.laws c.args.content.now) setting running events
