-- Lists with an element more, or with another element at an index.
use Rattle.std.proofs.Common.{◌≡◌, ◌⊎◌, ℕ, zero, suc, ◌+◌, List, [], ◌∷◌, ◌++◌, length, set, Bool, true, false, cond, Option, Some, None, if◌then◌else◌, slice_get, refl, sym, ap, ◌∙◌, inl, inr, arith, subst}
use Rattle.std.specs.Option.{option_or}
use Rattle.std.proofs.lemmas.Option.{same_Some, none-some}
use Rattle.std.specs.List.{position_from}

-- what looks the same of nothing and of the element more, looks the same
pub shown-push : {X Y : Type 0} (f : Option X → Y) (xs : List X) (x : X) (i : ℕ) → f None ≡ f (Some x) → f (slice_get (xs ++ x ∷ []) i) ≡ f (slice_get xs i)
shown-push f [] x zero e = sym e
shown-push f [] x (suc i) e = refl
shown-push f (y ∷ xs) x zero e = refl
shown-push f (y ∷ xs) x (suc i) e = shown-push f xs x i e

-- the first that passes a test
pub position-push : {X : Type 0} (f : X → Bool) (n : ℕ) (xs : List X) (x : X) → position_from f n (xs ++ x ∷ []) ≡ option_or (position_from f n xs) (if f x then Some (n + length xs) else None)
position-push f n [] x = let e : n + 0 ≡ n = omega arith in rw e refl
position-push f n (y ∷ xs) x =
    let e : n + length (y ∷ xs) ≡ n + 1 + length xs = omega arith in
    rw e (elim (f y) as (λ b. cond b (Some n) (position_from f (n + 1) (xs ++ x ∷ [])) ≡ option_or (cond b (Some n) (position_from f (n + 1) xs)) (if f x then Some (n + 1 + length xs) else None)) [
      | true ↦ refl
      | false ↦ position-push f (n + 1) xs x
    ])

pub push_cases : {X : Type 0} (xs : List X) (x y : X) (i : ℕ) → slice_get (xs ++ x ∷ []) i ≡ Some y → (slice_get xs i ≡ Some y) ⊎ ((i ≡ length xs) × (Some x ≡ Some y))
push_cases [] x y zero e = inr (refl, e)
push_cases [] x y (suc i) e = inl e
push_cases (z ∷ xs) x y zero e = inl e
push_cases (z ∷ xs) x y (suc i) e = elim (push_cases xs x y i e) [
  | inl front ↦ inl front
  | inr last ↦ inr (ap suc last.0, last.1)
]

-- the first that passes a test, once an element is another that passes alike
pub position-set : {X : Type 0} (f : X → Bool) (n : ℕ) (xs : List X) (i : ℕ) (x y : X) → slice_get xs i ≡ Some x → f y ≡ f x → position_from f n (set xs i y) ≡ position_from f n xs
position-set f n [] i x y e same = refl
position-set f n (z ∷ xs) zero x y e same = ap (λ b. cond b (Some n) (position_from f (n + 1) xs)) (same ∙ ap f (sym (same_Some z x e)))
position-set f n (z ∷ xs) (suc i) x y e same = ap (λ o. cond (f z) (Some n) o) (position-set f (n + 1) xs i x y e same)

pub set_cases : {X : Type 0} (xs : List X) (i j : ℕ) (x y m : X) → slice_get xs i ≡ Some x → slice_get (set xs i y) j ≡ Some m → (slice_get xs j ≡ Some m) ⊎ ((slice_get xs j ≡ Some x) × (Some y ≡ Some m))
set_cases [] i j x y m e d = inl d
set_cases (z ∷ xs) zero zero x y m e d = inr (e, d)
set_cases (z ∷ xs) zero (suc j) x y m e d = inl d
set_cases (z ∷ xs) (suc i) zero x y m e d = inl d
set_cases (z ∷ xs) (suc i) (suc j) x y m e d = set_cases xs i j x y m e d

-- element k passes a test
pub record Passes {X : Type 0} (f : X → Bool) (xs : List X) (k : ℕ) : Type 0 where
  pub x : X
  pub here : slice_get xs k ≡ Some x
  pub passes : f x ≡ true

passes_by : {X : Type 0} (f : X → Bool) (n : ℕ) (x : X) (xs : List X) (i : ℕ) (b : Bool) → f x ≡ b → cond b (Some n) (position_from f (n + 1) xs) ≡ Some i
    → ((i : ℕ) → position_from f (n + 1) xs ≡ Some i → (k : ℕ) × (i ≡ n + 1 + k) × Passes f xs k) → (k : ℕ) × (i ≡ n + k) × Passes f (x ∷ xs) k
passes_by f n x xs i true t e later = let s = same_Some n i e in (0, omega (arith, s), record { x = x; here = refl; passes = t })
passes_by f n x xs i false t e later =
    let h = later i e in
    let s = h.1 in
    (suc h.0, omega (arith, s), record { x = h.2.x; here = h.2.here; passes = h.2.passes })

pub position_passes : {X : Type 0} (f : X → Bool) (n : ℕ) (xs : List X) (i : ℕ) → position_from f n xs ≡ Some i → (k : ℕ) × (i ≡ n + k) × Passes f xs k
position_passes f n [] i e = absurd (none-some i e)
position_passes f n (x ∷ xs) i e = passes_by f n x xs i (f x) refl e (λ j. position_passes f (n + 1) xs j)

pub first_passes : {X : Type 0} (f : X → Bool) (xs : List X) (i : ℕ) → position_from f 0 xs ≡ Some i → Passes f xs i
first_passes f xs i e =
    let h = position_passes f 0 xs i e in
    let same : h.0 ≡ i = let s = h.1 in omega (arith, s) in
    subst (λ (k : ℕ). Passes f xs k) same h.2
