use Rattle.std.proofs.Common.{ℕ, suc, Option, Some, None}
use Rattle.nm_validate_places.proofs.values.+chain.Given as goal

-- how far down a node may be
abbrev depth : Option ℕ → ℕ
depth None = 0
depth (Some x) = suc x

abbrev pub decreases-chain : goal.decreases-chain
decreases-chain l = depth l.at
