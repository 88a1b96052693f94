use Rattle.nm_audit.proofs.Decided.{phases_told}
use Rattle.nm_audit.proofs.laws.board_tells_outcomes.Goals as goal

pub returns : goal.returns
returns g c a tables agree n place slot cell at there legal = phases_told (g.C.Content.meaning c.args.content.now) tables a agree n place slot cell at there legal
