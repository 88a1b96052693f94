use Rattle.std.proofs.Common.{◌*◌, ◌-◌, ◌^◌, ap, ◌∙◌, arith}
use Rattle.std.proofs.lemmas.Nat.{mul-le}
use Rattle.nm_explore_ways.proofs.Counts.{with_one}
use Rattle.nm_explore_ways.proofs.count.count_of_one.Goals as goal

pub returns-clause-count : goal.returns-clause-count
returns-clause-count c =
    ap (λ f. f * c.from-2.result) c.from.ensures ∙ ap (λ p. c.args.faults * p) c.from-2.ensures ∙ with_one c.args.places c.args.faults

pub returns-clause-small : goal.returns-clause-small
returns-clause-small c =
    mul-le c.from.result c.from-2.result (2 ^ 32 - 1) (2 ^ 32 - 1) (omega (arith, c.from.ensures, c.ranges.faults.fits)) (omega (arith, c.from-2.ensures, c.ranges.places.fits))
