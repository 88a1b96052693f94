use Rattle.std.proofs.Common.{ℕ, ◌-◌, ◌*◌, ◌^◌, ◌<◌, drop}
use Rattle.nm_base.specs.Head.{IsHead}
use Rattle.nm_base.proofs.label.head_of.Given as goal

-- what is left goes on from the head so far, which is as long as the bytes before
abbrev pub invariant-loop-place : goal.invariant-loop-place
invariant-loop-place l = ((head : ℕ) → IsHead (8 - l.place) l.head (drop l.place l.text) head → IsHead 8 0 l.text head) × (l.head < 2 ^ (8 * l.place))
