use Rattle.std.proofs.Common.{refl}
use Rattle.nm_audit.proofs.Commits.{commits_once}
use Rattle.nm_audit.proofs.laws.committed_once.Goals as goal

pub returns : goal.returns
returns g c a tables agree own others n change cell at legal = commits_once (g.C.Content.meaning c.args.content.now) tables a agree own others n cell at legal change refl
