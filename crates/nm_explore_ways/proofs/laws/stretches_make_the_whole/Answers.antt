use Rattle.nm_explore_ways.proofs.Counts.{stretched}
use Rattle.nm_explore_ways.proofs.laws.stretches_make_the_whole.Goals as goal

pub returns : goal.returns
returns c = stretched
