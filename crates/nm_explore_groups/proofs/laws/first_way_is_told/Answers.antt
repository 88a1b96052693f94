use Rattle.nm_explore_groups.proofs.Counted.{first_kept}
use Rattle.nm_explore_groups.proofs.laws.first_way_is_told.Goals as goal

pub returns : goal.returns
returns g c = first_kept g.E.PartialEq.eq g.met.E.Eq.laws
