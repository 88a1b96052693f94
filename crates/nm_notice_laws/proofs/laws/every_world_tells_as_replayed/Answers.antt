use Rattle.nm_notice_laws.proofs.Histories.{reached_tells, run_tells}
use Rattle.nm_notice_laws.proofs.laws.every_world_tells_as_replayed.Goals as goal

pub returns-clause-ran : goal.returns-clause-ran
returns-clause-ran g c = λ setting running events steps first. run_tells (g.C.Content.meaning c.args.content.now) (g.met.C.Content.laws c.args.content.now) setting running first events steps

pub returns-clause-reached : goal.returns-clause-reached
returns-clause-reached g c = λ setting running events steps last first reaches.
    reached_tells (g.C.Content.meaning c.args.content.now) (g.met.C.Content.laws c.args.content.now) setting running first events steps last reaches
