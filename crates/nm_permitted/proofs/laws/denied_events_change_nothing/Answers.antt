use Rattle.nm_permitted.proofs.Passes.{denied_same}
use Rattle.nm_permitted.proofs.laws.denied_events_change_nothing.Goals as goal

pub returns : goal.returns
returns g c setting judge w event = denied_same (g.C.Content.meaning c.args.content.now) setting judge w event
