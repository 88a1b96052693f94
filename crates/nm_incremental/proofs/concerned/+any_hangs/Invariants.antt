use Rattle.std.proofs.Common.{ℕ, suc, Option, Some, None}
use Rattle.nm_incremental.proofs.concerned.+any_hangs.Given as goal

-- how far down a node may be
abbrev depth : Option ℕ → ℕ
depth None = 0
depth (Some x) = suc x

abbrev pub decreases-any_hangs : goal.decreases-any_hangs
decreases-any_hangs l = depth l.at
