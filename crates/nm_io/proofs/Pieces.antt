-- What a read that gives nothing tells, where one gives something at least.
use Rattle.std.proofs.Common.{◌≡◌, ℕ, ◌<◌, ◌≤◌, List, [], ◌∷◌, length, min, refl, arith}

pub at_end : (left : List ℕ) (room most n : ℕ) → n ≡ min (min (length left) room) most → n ≡ 0 → 0 < room → 1 ≤ most → left ≡ []
at_end [] room most n is none some least = refl
at_end (byte ∷ left) room most n is none some least = absurd (omega (arith, is, none, some, least))
