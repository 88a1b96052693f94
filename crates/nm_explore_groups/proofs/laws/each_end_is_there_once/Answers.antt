use Rattle.nm_explore_groups.proofs.Merged.{each_once}
use Rattle.nm_explore_groups.proofs.laws.each_end_is_there_once.Goals as goal

pub returns : goal.returns
returns g c = each_once g.E.PartialEq.eq g.met.E.Eq.laws
