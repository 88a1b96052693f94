use Rattle.nm_history.proofs.Keeping.{event_keeps}
use Rattle.nm_device_laws.proofs.laws.running_moves.Goals as goal

pub returns-clause-moves : goal.returns-clause-moves
returns-clause-moves g c s at = (event_keeps (g.C.Content.meaning c.args.content.now) (g.met.C.Content.laws c.args.content.now) at.tables s at.event at.h at.happens).moved.moves

pub returns-clause-began : goal.returns-clause-began
returns-clause-began g c s at = (event_keeps (g.C.Content.meaning c.args.content.now) (g.met.C.Content.laws c.args.content.now) at.tables s at.event at.h at.happens).moved.began
