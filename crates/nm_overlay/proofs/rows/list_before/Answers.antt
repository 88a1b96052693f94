use Rattle.std.proofs.Common.{arith}
use Rattle.nm_overlay.specs.Places.{is_before}
use Rattle.nm_overlay.proofs.Fronts.{front_within}
use Rattle.nm_overlay.proofs.rows.list_before.Goals as goal

pub split_at-requires : goal.split_at-requires
split_at-requires c = omega (arith, c.count_before.ensures, front_within (is_before c.args.path.now) c.args.pairs.now)
