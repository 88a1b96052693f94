use Rattle.nm_run_laws.proofs.Keeping.{begins, steps, drains, is_safe}
use Rattle.nm_run_laws.proofs.upheld.every_step_upholds.Goals as goal

pub returns-clause-begins : goal.returns-clause-begins
returns-clause-begins g c = λ setting running proper. begins (g.C.Content.meaning c.args.content.now) (g.met.C.Content.laws c.args.content.now) setting running proper

pub returns-clause-steps : goal.returns-clause-steps
returns-clause-steps g c = λ setting running w event given k. steps (g.C.Content.meaning c.args.content.now) (g.met.C.Content.laws c.args.content.now) setting running w k event given

pub returns-clause-drains : goal.returns-clause-drains
returns-clause-drains g c = λ setting running w k. drains (g.C.Content.meaning c.args.content.now) (g.met.C.Content.laws c.args.content.now) setting running w k

pub returns-clause-safe : goal.returns-clause-safe
returns-clause-safe g c = λ setting running events w k. is_safe (g.C.Content.meaning c.args.content.now) (g.met.C.Content.laws c.args.content.now) setting running w k events
