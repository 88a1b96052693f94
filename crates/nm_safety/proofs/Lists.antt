-- What stands at the places of lists.
use Rattle.std.proofs.Common.{◌≡◌, ℕ, zero, suc, ◌-◌, List, [], ◌∷◌, ◌++◌, length, replicate, Option, Some, None, IfSome, slice_get, slice_set, refl, ap, subst, arith}

pub some_is : {A : Type 0} (x : A) (P : A → Type 0) (found : Option A) → found ≡ Some x → IfSome found P → P x
some_is x P None e h = absurd (let g : None ≡ Some x = e in cc)
some_is x P (Some y) e h = let g : y ≡ x = cc in subst P g h

pub to_some : {A : Type 0} (P : A → Type 0) (found : Option A) → ((x : A) → found ≡ Some x → P x) → IfSome found P
to_some P None h = tt
to_some P (Some x) h = h x refl

module _ {A : Type 0} where
  -- one of them is another
  pub at_set : (P : ℕ → A → Type 0) (xs : List A) (i : ℕ) (old new : A) → slice_get xs i ≡ Some old → P i new → ((j : ℕ) → IfSome (slice_get xs j) (P j))
      → (j : ℕ) → IfSome (slice_get (slice_set xs i new) j) (P j)
  at_set P [] i old new h now all j = absurd (let g : None ≡ Some old = h in cc)
  at_set P (x ∷ xs) zero old new h now all zero = now
  at_set P (x ∷ xs) zero old new h now all (suc j) = all (suc j)
  at_set P (x ∷ xs) (suc i) old new h now all zero = all zero
  at_set P (x ∷ xs) (suc i) old new h now all (suc j) = at_set (λ k. P (suc k)) xs i old new h now (λ k. all (suc k)) j

  pub set_other : (xs : List A) (k j : ℕ) (x : A) → (j ≡ k → ⊥) → slice_get (slice_set xs k x) j ≡ slice_get xs j
  set_other [] k j x ne = refl
  set_other (z ∷ xs) zero zero x ne = absurd (ne refl)
  set_other (z ∷ xs) zero (suc j) x ne = refl
  set_other (z ∷ xs) (suc k) zero x ne = refl
  set_other (z ∷ xs) (suc k) (suc j) x ne = set_other xs k j x (λ e. ne (ap suc e))

  pub set_none : (xs : List A) (k : ℕ) (x : A) → slice_get xs k ≡ None → slice_set xs k x ≡ xs
  set_none [] k x e = refl
  set_none (z ∷ xs) zero x e = absurd (let g : Some z ≡ None = e in cc)
  set_none (z ∷ xs) (suc k) x e = ap (λ rest. z ∷ rest) (set_none xs k x e)

-- as many of one
pub all_equal : {A : Type 0} (P : A → Type 0) (n : ℕ) (x : A) → P x → (j : ℕ) → IfSome (slice_get (replicate n x) j) P
all_equal P zero x p j = tt
all_equal P (suc n) x p zero = p
all_equal P (suc n) x p (suc j) = all_equal P n x p j

-- the place before a number
pub down : {A : Type 0} (xs : List A) (j : ℕ) → slice_get xs (suc j - 1) ≡ slice_get xs j
down xs j = let e : suc j - 1 ≡ j = omega arith in ap (slice_get xs) e

-- one more at the end
pub one_longer : {A : Type 0} (xs : List A) (x : A) → length (xs ++ x ∷ []) ≡ suc (length xs)
one_longer [] x = refl
one_longer (y ∷ xs) x = ap suc (one_longer xs x)
