use Rattle.std.proofs.Common.{◌+◌, ◌*◌, ◌/◌, ap, ◌∙◌}
use Rattle.nm_explore_ways.proofs.Counts.{halves}
use Rattle.nm_explore_ways.proofs.count.pairs_of.Goals as goal

pub returns : goal.returns
returns c = halves c.from-places.result ∙ ap (λ n. n * (n + 1)) c.from-places.ensures
