use Rattle.nm_explore_groups.proofs.Merged.{in_parts}
use Rattle.nm_explore_groups.proofs.laws.parts_make_the_whole.Goals as goal

pub returns : goal.returns
returns g c = in_parts g.E.PartialEq.eq g.met.E.Eq.laws
