-- Finite maps of numbers, entry by entry (this project's own).
use Rattle.std.specs.Prelude.{ℕ, List, [], ◌∷◌}
use Rattle.std.specs.Ordering.{nat_cmp}
use Rattle.std.specs.FinMap.{FinMap, insert}

-- a map with more entries put into it, one after another
abbrev pub with_entries : {X : Type 0} → FinMap nat_cmp X → List (ℕ × X) → FinMap nat_cmp X
with_entries m [] = m
with_entries m (e ∷ es) = with_entries (insert m e.0 e.1) es
