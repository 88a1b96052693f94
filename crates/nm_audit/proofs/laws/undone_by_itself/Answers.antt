use Rattle.nm_audit.proofs.Phases.{undone_alone}
use Rattle.nm_audit.proofs.laws.undone_by_itself.Goals as goal

pub returns : goal.returns
returns g c tables token running history legal phase = undone_alone (g.C.Content.meaning c.args.content.now) tables token running history legal phase
