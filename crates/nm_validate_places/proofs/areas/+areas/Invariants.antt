use Rattle.std.proofs.Common.{ℕ, suc, Option, Some, None}
use Rattle.nm_validate_places.proofs.areas.+areas.Given as goal

-- how far down a node may be
abbrev depth : Option ℕ → ℕ
depth None = 0
depth (Some x) = suc x

abbrev pub decreases-areas : goal.decreases-areas
decreases-areas g l = depth l.parent
