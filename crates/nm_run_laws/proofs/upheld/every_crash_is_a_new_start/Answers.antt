use Rattle.nm_run_laws.proofs.Starts.{new_start}
use Rattle.nm_run_laws.proofs.upheld.every_crash_is_a_new_start.Goals as goal

pub returns : goal.returns
returns g c = λ setting running w event image k between. new_start (g.C.Content.meaning c.args.content.now) setting w k.supported event image between
