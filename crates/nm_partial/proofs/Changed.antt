-- A loop that changes each element of a list in place.
use Rattle.std.proofs.Common.{◌≡◌, ℕ, zero, suc, ◌<◌, List, [], ◌∷◌, ◌++◌, length, map, take, drop, set, get_or, refl, ap, ◌∙◌, ◌+◌, add-one, arith}

-- one more element is changed
pub changed_more : {A : Type 0} (change : A → A) (xs : List A) (i : ℕ) (d : A) → i < length xs
    → set (map change (take i xs) ++ drop i xs) i (change (get_or (map change (take i xs) ++ drop i xs) i d)) ≡ map change (take (suc i) xs) ++ drop (suc i) xs
changed_more change [] i d h = absurd (omega arith)
changed_more change (x ∷ xs) zero d h = refl
changed_more change (x ∷ xs) (suc i) d h = ap (λ rest. change x ∷ rest) (changed_more change xs i d (omega arith))

-- what the loop writes at its place
pub changed_at : {A : Type 0} (change : A → A) (xs ys : List A) (i : ℕ) (d new : A) → ys ≡ map change (take i xs) ++ drop i xs → i < length xs → new ≡ change (get_or ys i d)
    → set ys i new ≡ map change (take (i + 1) xs) ++ drop (i + 1) xs
changed_at change xs ys i d new so_far h by =
    let new_is : new ≡ change (get_or (map change (take i xs) ++ drop i xs) i d) = by ∙ ap (λ l. change (get_or l i d)) so_far in
    rw add-one (ap (λ l. set l i new) so_far ∙ ap (λ x. set (map change (take i xs) ++ drop i xs) i x) new_is ∙ changed_more change xs i d h)
