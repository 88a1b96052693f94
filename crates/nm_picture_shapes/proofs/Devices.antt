-- Loops that add to a list for each of another, with its number from one on.
use Rattle.std.proofs.Common.{◌≡◌, ◌<◌, ◌+◌, ◌∙◌, ℕ, List, ◌∷◌, ◌++◌, length, drop, get_or, sym, ap, append_assoc}
use Rattle.std.proofs.lemmas.List.{drop_more}

module _ {A B : Type 0} (all : ℕ → List A → List B) (one : ℕ → A → List B) (each : (k : ℕ) (x : A) (rest : List A) → all k (x ∷ rest) ≡ one k x ++ all (k + 1) rest) where
  -- one more
  pub one_more : (xs : List A) (i : ℕ) (d : A) (before after whole : List B) → i < length xs → after ≡ before ++ one (i + 1) (get_or xs i d)
      → before ++ all (i + 1) (drop i xs) ≡ whole → after ++ all (i + 1 + 1) (drop (i + 1) xs) ≡ whole
  one_more xs i d before after whole less is so_far =
      ap (λ (found : List B). found ++ all (i + 1 + 1) (drop (i + 1) xs)) is
      ∙ append_assoc before (one (i + 1) (get_or xs i d)) (all (i + 1 + 1) (drop (i + 1) xs))
      ∙ ap (λ (found : List B). before ++ found) (sym (each (i + 1) (get_or xs i d) (drop (i + 1) xs)))
      ∙ ap (λ (rest : List A). before ++ all (i + 1) rest) (sym (drop_more xs i d less)) ∙ so_far
