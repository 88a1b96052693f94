use Rattle.std.proofs.Common.{◌*◌, ap, ◌∙◌, arith}
use Rattle.nm_explore_ways.proofs.Counts.{with_pairs}
use Rattle.nm_explore_ways.proofs.count.count_of_two.Goals as goal

pub returns : goal.returns
returns c =
    let e = ap (λ f. f * f * c.pairs_of.result) c.from-faults.ensures ∙ with_pairs c.args.places c.args.faults c.pairs_of.result c.pairs_of.ensures in
    omega (arith, c.saturating_mul.ensures, e)
