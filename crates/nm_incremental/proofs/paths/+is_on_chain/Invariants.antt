use Rattle.std.proofs.Common.{ℕ, suc, Option, Some, None}
use Rattle.nm_incremental.proofs.paths.+is_on_chain.Given as goal

-- how far down a node may be
abbrev depth : Option ℕ → ℕ
depth None = 0
depth (Some x) = suc x

abbrev pub decreases-is_on_chain : goal.decreases-is_on_chain
decreases-is_on_chain l = depth l.at
