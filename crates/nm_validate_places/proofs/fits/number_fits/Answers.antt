use Rattle.std.proofs.Common.{◌∙◌, false, ap, sym, refl, to_z, of_z}
use Rattle.std.specs.Prelude.{◌&&◌}
use Rattle.std.specs.Int.{w128}
use Rattle.nm_types.specs.Limits.{meets_range}
use Rattle.nm_types.proofs.Integers.{bounds_alike}
use Rattle.nm_validate_places.proofs.Numbers.{within_fits}
use Rattle.nm_validate_places.proofs.fits.number_fits.Goals as goal

pub returns-then-not-is_between : goal.returns-then-not-is_between
returns-then-not-is_between c =
    let n = c.args.number in
    let range = c.args.range.now in
    let e = bounds_alike false n n c.args.low c.args.low c.args.high c.args.high range refl refl refl c.ranges.number c.ranges.low c.ranges.high
    (ap (λ b. b && meets_range range (to_z w128 (of_z w128 n))) c.if-not-is_between.ensures) in
    sym (within_fits c.args.low c.args.high range n c.ranges.number false e)

pub returns : goal.returns
returns c =
    let n = c.args.number in
    let range = c.args.range.now in
    let e = bounds_alike c.meets_range.result n n c.args.low c.args.low c.args.high c.args.high range refl refl refl c.ranges.number c.ranges.low c.ranges.high
    (c.meets_range.ensures ∙ ap (λ b. b && meets_range range (to_z w128 (of_z w128 n))) c.if-not-is_between.ensures) in
    sym (within_fits c.args.low c.args.high range n c.ranges.number c.meets_range.result e)
