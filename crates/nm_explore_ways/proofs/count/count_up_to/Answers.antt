use Rattle.std.proofs.Common.{◌≡◌, ◌+◌, ◌-◌, ◌^◌, ℕ, length, min, sym, subst, arith}
use Rattle.nm_explore_ways.specs.Ways.{ways_up_to}
use Rattle.nm_explore_ways.proofs.Counts.{up_to_one, up_to_two}
use Rattle.nm_explore_ways.proofs.count.count_up_to.Goals as goal

pub returns-in-1 : goal.returns-in-1
returns-in-1 c =
    let e = up_to_one c.args.places c.args.faults in
    let small = c.count_of_one.ensures.small in
    let count = c.count_of_one.ensures.count in
    subst (λ (n : ℕ). 1 + c.count_of_one.result ≡ min (length (ways_up_to c.args.places c.args.faults n)) 18446744073709551615) (sym c.in-1.is) (omega (arith, e, small, count))
