use Rattle.std.proofs.Common.{◌≡◌, ◌*◌, ◌^◌, min}
use Rattle.nm_types.proofs.decimal.moved_left.Given as goal

abbrev pub invariant-loop-place : goal.invariant-loop-place
invariant-loop-place l = l.moved ≡ min (l.number * 10 ^ l._place) (2 ^ 64)
