-- Bits by their positions (RFC 7950 section 9.7.4.2).
use Rattle.std.specs.Prelude.{ℕ, ◌≤◌, List, [], ◌∷◌, ⊤}

-- no bit has a position below this one
abbrev pub IsAbove : ℕ → List (List ℕ × ℕ) → Type 0
IsAbove n [] = ⊤
IsAbove n (b ∷ bs) = (n ≤ b.1) × IsAbove n bs

-- no bit stands behind one of a higher position
abbrev pub Rise : List (List ℕ × ℕ) → Type 0
Rise [] = ⊤
Rise (b ∷ bs) = IsAbove b.1 bs × Rise bs
