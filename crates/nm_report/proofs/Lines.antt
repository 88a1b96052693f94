-- Loops that write a line for each of a list, with its number from one on.
use Rattle.std.proofs.Common.{◌≡◌, ◌<◌, ◌+◌, ◌∙◌, ℕ, List, ◌∷◌, ◌++◌, length, drop, get_or, sym, ap, append_assoc}
use Rattle.std.proofs.lemmas.List.{drop_more}

module _ {A : Type 0} (lines : ℕ → List A → List ℕ) (line : ℕ → A → List ℕ) (each : (k : ℕ) (x : A) (rest : List A) → lines k (x ∷ rest) ≡ line k x ++ lines (k + 1) rest) where
  -- a line more
  pub one_more : (xs : List A) (i : ℕ) (d : A) (before after whole : List ℕ) → i < length xs → after ≡ before ++ line (i + 1) (get_or xs i d)
      → before ++ lines (i + 1) (drop i xs) ≡ whole → after ++ lines (i + 1 + 1) (drop (i + 1) xs) ≡ whole
  one_more xs i d before after whole lt is so_far =
      ap (λ (text : List ℕ). text ++ lines (i + 1 + 1) (drop (i + 1) xs)) is
      ∙ append_assoc before (line (i + 1) (get_or xs i d)) (lines (i + 1 + 1) (drop (i + 1) xs))
      ∙ ap (λ (text : List ℕ). before ++ text) (sym (each (i + 1) (get_or xs i d) (drop (i + 1) xs)))
      ∙ ap (λ (rest : List A). before ++ lines (i + 1) rest) (sym (drop_more xs i d lt)) ∙ so_far
