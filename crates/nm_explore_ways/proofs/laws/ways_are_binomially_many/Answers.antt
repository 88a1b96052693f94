use Rattle.nm_explore_ways.proofs.Counts.{counted}
use Rattle.nm_explore_ways.proofs.laws.ways_are_binomially_many.Goals as goal

pub returns : goal.returns
returns c = counted
