use Rattle.nm_device_laws.proofs.Numbers.{fresh_numbered, numbers_keep, numbers_rise}
use Rattle.nm_device_laws.proofs.laws.numbers_stay.Goals as goal

pub returns-clause-fresh : goal.returns-clause-fresh
returns-clause-fresh g c s running e = fresh_numbered s running e

pub returns-clause-stay : goal.returns-clause-stay
returns-clause-stay g c s at n = numbers_keep (g.C.Content.meaning c.args.content.now) at.tables s n at.event at.h at.happens

pub returns-clause-rise : goal.returns-clause-rise
returns-clause-rise g c s at = numbers_rise (g.C.Content.meaning c.args.content.now) at.tables s at.event at.h at.happens
