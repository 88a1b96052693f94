use Rattle.nm_explore_groups.proofs.Counted.{all_counted, each_counted}
use Rattle.nm_explore_groups.proofs.laws.all_runs_are_counted.Goals as goal

pub returns-clause-of_each : goal.returns-clause-of_each
returns-clause-of_each g c = each_counted g.E.PartialEq.eq g.met.E.Eq.laws

pub returns-clause-of_all : goal.returns-clause-of_all
returns-clause-of_all g c = all_counted g.E.PartialEq.eq
