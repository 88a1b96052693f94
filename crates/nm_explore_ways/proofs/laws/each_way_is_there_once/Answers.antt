use Rattle.nm_explore_ways.proofs.Once.{once}
use Rattle.nm_explore_ways.proofs.laws.each_way_is_there_once.Goals as goal

pub returns : goal.returns
returns c = once
