-- Loops over seats.
use Rattle.std.proofs.Common.{◌≡◌, ℕ, zero, suc, ◌+◌, ◌-◌, ◌<◌, List, [], ◌∷◌, ◌++◌, length, map, take, drop, set, get_or, refl, sym, ap, ◌∙◌, add-one, arith}
use Rattle.nm_decider_stage.specs.declared.stage.Stage.{Stage}
use Rattle.nm_decider.specs.declared.seat.Seat.{Seat}
use Rattle.nm_decider.specs.Course.{seats_from, seat_of}

-- one of the seats that are left
pub seats_from-left : (devices : ℕ) (first : Stage) (device n k : ℕ) → k < n
    → seats_from devices first device (n - k) ≡ seat_of devices first device ∷ seats_from devices first (device + 1) (n - (k + 1))
unfolding seats_from
seats_from-left devices first device n k h = let e : n - k ≡ suc (n - (k + 1)) = omega arith in rw e refl

-- no seat is left
pub seats_from-none : (devices : ℕ) (first : Stage) (device : ℕ) → seats_from devices first device 0 ≡ []
unfolding seats_from
seats_from-none devices first device = refl

append_nil : {A : Type 0} (xs : List A) → xs ++ [] ≡ xs
append_nil [] = refl
append_nil (x ∷ xs) = ap (λ rest. x ∷ rest) (append_nil xs)

-- the loop is done
pub seats_end : (devices : ℕ) (first : Stage) (device : ℕ) (seats whole : List Seat) → device ≡ 33 → seats ++ seats_from devices first device (33 - device) ≡ whole → seats ≡ whole
seats_end devices first device seats whole last so_far =
    let none : 33 - device ≡ 0 = omega (arith, last) in
    sym (append_nil seats) ∙ ap (λ rest. seats ++ rest) (sym (ap (seats_from devices first device) none ∙ seats_from-none devices first device)) ∙ so_far

-- one more element is changed
changed_more : {A : Type 0} (change : A → A) (xs : List A) (i : ℕ) (d : A) → i < length xs
    → set (map change (take i xs) ++ drop i xs) i (change (get_or (map change (take i xs) ++ drop i xs) i d)) ≡ map change (take (suc i) xs) ++ drop (suc i) xs
changed_more change [] i d h = absurd (omega arith)
changed_more change (x ∷ xs) zero d h = refl
changed_more change (x ∷ xs) (suc i) d h = ap (λ rest. change x ∷ rest) (changed_more change xs i d (omega arith))

-- what the loop writes at its place
pub changed_at : {A : Type 0} (change : A → A) (xs ys : List A) (i : ℕ) (d new : A) → ys ≡ map change (take i xs) ++ drop i xs → i < length xs → new ≡ change (get_or ys i d)
    → set ys i new ≡ map change (take (i + 1) xs) ++ drop (i + 1) xs
changed_at change xs ys i d new so_far h by =
    let new_is : new ≡ change (get_or (map change (take i xs) ++ drop i xs) i d) = by ∙ ap (λ l. change (get_or l i d)) so_far in
    rw add-one (ap (λ l. set l i new) so_far ∙ ap (λ x. set (map change (take i xs) ++ drop i xs) i x) new_is ∙ changed_more change xs i d h)
