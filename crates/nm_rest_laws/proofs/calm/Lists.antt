-- Three lists, place by place.
use Rattle.std.proofs.Common.{◌≡◌, ℕ, zero, suc, List, [], ◌∷◌, Option, Some, None, slice_get, slice_set}

-- what stands at one place of each is another
pub set_each : {A B C : Type 0} (P : ℕ → Option A → Option B → Option C → Type 0) (xs : List A) (ys : List B) (zs : List C) (i : ℕ)
    → (x new_x : A) (y new_y : B) (z new_z : C) → slice_get xs i ≡ Some x → slice_get ys i ≡ Some y → slice_get zs i ≡ Some z
    → ((j : ℕ) → P j (slice_get xs j) (slice_get ys j) (slice_get zs j)) → P i (Some new_x) (Some new_y) (Some new_z)
    → (j : ℕ) → P j (slice_get (slice_set xs i new_x) j) (slice_get (slice_set ys i new_y) j) (slice_get (slice_set zs i new_z) j)
set_each P [] ys zs i x new_x y new_y z new_z f g h all now j = absurd (let e : None ≡ Some x = f in cc)
set_each P (a ∷ xs) [] zs i x new_x y new_y z new_z f g h all now j = absurd (let e : None ≡ Some y = g in cc)
set_each P (a ∷ xs) (b ∷ ys) [] i x new_x y new_y z new_z f g h all now j = absurd (let e : None ≡ Some z = h in cc)
set_each P (a ∷ xs) (b ∷ ys) (c ∷ zs) zero x new_x y new_y z new_z f g h all now zero = now
set_each P (a ∷ xs) (b ∷ ys) (c ∷ zs) zero x new_x y new_y z new_z f g h all now (suc j) = all (suc j)
set_each P (a ∷ xs) (b ∷ ys) (c ∷ zs) (suc i) x new_x y new_y z new_z f g h all now zero = all zero
set_each P (a ∷ xs) (b ∷ ys) (c ∷ zs) (suc i) x new_x y new_y z new_z f g h all now (suc j) =
    set_each (λ k. P (suc k)) xs ys zs i x new_x y new_y z new_z f g h (λ k. all (suc k)) now j
