-- Elements of lists.
use Rattle.std.proofs.Common.{◌≡◌, ◌∙◌, ◌<◌, ◌⊎◌, inl, inr, ℕ, zero, suc, List, [], ◌∷◌, length, map, filter, get_or, Bool, true, false, cond, Some, None, slice_get, refl, sym, ap, subst, arith}
use Rattle.std.specs.Prelude.{Contains, slice_index_or}
use Rattle.std.specs.List.{find, range_with_len}
use Rattle.std.proofs.lemmas.List.Elements.{Contains-get_or}
use Rattle.std.proofs.lemmas.List.FromFn.{length-range_with_len, get_or-range_with_len}

pub here : {X : Type 0} (x y : X) (xs : List X) → x ≡ y → Contains (x ∷ xs) y
here x y xs e = (zero, omega arith, e)

pub later : {X : Type 0} (x y : X) (xs : List X) → Contains xs y → Contains (x ∷ xs) y
later x y xs c = (suc c.0, omega (arith, c.1), c.2)

pub nothing : {X : Type 0} (y : X) → Contains [] y → ⊥
nothing y c = omega (arith, c.1)

first_at : {X : Type 0} (x y : X) (xs : List X) (k : ℕ) → k < length (x ∷ xs) → slice_index_or (x ∷ xs) k y ≡ y → (x ≡ y) ⊎ Contains xs y
first_at x y xs zero lt e = inl e
first_at x y xs (suc k) lt e = inr (k, omega (arith, lt), e)

pub first_or_later : {X : Type 0} (x y : X) (xs : List X) → Contains (x ∷ xs) y → (x ≡ y) ⊎ Contains xs y
first_or_later x y xs c = first_at x y xs c.0 c.1 c.2

-- an element of a list of values is the value of an element
pub of_map : {X Y : Type 0} (f : X → Y) (xs : List X) (y : Y) → Contains (map f xs) y → (x : X) × Contains xs x × (f x ≡ y)
of_map f [] y c = absurd (nothing y c)
of_map f (x ∷ xs) y c = elim (first_or_later (f x) y (map f xs) c) [
  | inl e ↦ (x, here x x xs refl, e)
  | inr d ↦ let r = of_map f xs y d in (r.0, later x r.0 xs r.1, r.2)
]

pub in_map : {X Y : Type 0} (f : X → Y) (xs : List X) (x : X) → Contains xs x → Contains (map f xs) (f x)
in_map f [] x c = absurd (nothing x c)
in_map f (z ∷ xs) x c = elim (first_or_later z x xs c) [
  | inl e ↦ here (f z) (f x) (map f xs) (ap f e)
  | inr d ↦ later (f z) (f x) (map f xs) (in_map f xs x d)
]

of_kept : {X : Type 0} (p : X → Bool) (z x : X) (xs : List X) (b : Bool) → p z ≡ b → (Contains (filter p xs) x → Contains xs x × (p x ≡ true)) → Contains (cond b (z ∷ filter p xs) (filter p xs)) x → Contains (z ∷ xs) x × (p x ≡ true)
of_kept p z x xs true is rest c = elim (first_or_later z x (filter p xs) c) [
  | inl e ↦ (here z x xs e, ap p (sym e) ∙ is)
  | inr d ↦ (later z x xs (rest d).0, (rest d).1)
]
of_kept p z x xs false is rest c = (later z x xs (rest c).0, (rest c).1)

-- an element that was kept is one that passes the test
pub of_filter : {X : Type 0} (p : X → Bool) (xs : List X) (x : X) → Contains (filter p xs) x → Contains xs x × (p x ≡ true)
of_filter p [] x c = absurd (nothing x c)
of_filter p (z ∷ xs) x c = of_kept p z x xs (p z) refl (of_filter p xs x) c

pub in_range : (n k : ℕ) → k < n → Contains (range_with_len 0 n) k
in_range n k lt =
    let within : k < length (range_with_len 0 n) = rw (length-range_with_len 0 n) lt in
    let at : get_or (range_with_len 0 n) k 0 ≡ k = get_or-range_with_len 0 n k 0 lt ∙ omega arith in
    subst (λ j. Contains (range_with_len 0 n) j) at (Contains-get_or (range_with_len 0 n) k 0 within)

pub of_range : (n y : ℕ) → Contains (range_with_len 0 n) y → y < n
of_range n y c =
    let size = length-range_with_len 0 n in
    let lt : c.0 < n = omega (arith, c.1, size) in
    let at = get_or-range_with_len 0 n c.0 y lt in
    let is : get_or (range_with_len 0 n) c.0 y ≡ y = c.2 in
    omega (arith, lt, at, is)

-- an element that is found by its place
pub in_list : {X : Type 0} (xs : List X) (i : ℕ) (x : X) → slice_get xs i ≡ Some x → Contains xs x
in_list [] i x e = absurd (cc)
in_list (z ∷ xs) zero x e = let same : z ≡ x = cc in here z x xs same
in_list (z ∷ xs) (suc i) x e = later z x xs (in_list xs i x e)

not_found : {X : Type 0} (p : X → Bool) (z x : X) (xs : List X) (b : Bool) → p z ≡ b → (find p xs ≡ None → Contains xs x → p x ≡ false) → cond b (Some z) (find p xs) ≡ None → (z ≡ x) ⊎ Contains xs x → p x ≡ false
not_found p z x xs true is rest e c = absurd (cc)
not_found p z x xs false is rest e (inl same) = ap p (sym same) ∙ is
not_found p z x xs false is rest e (inr d) = rest e d

-- where none is found, none passes
pub finds_none : {X : Type 0} (p : X → Bool) (xs : List X) (x : X) → find p xs ≡ None → Contains xs x → p x ≡ false
finds_none p [] x e c = absurd (nothing x c)
finds_none p (z ∷ xs) x e c = not_found p z x xs (p z) refl (finds_none p xs x) e (first_or_later z x xs c)

found_one : {X : Type 0} (p : X → Bool) (z x : X) (xs : List X) (b : Bool) → p z ≡ b → (find p xs ≡ Some x → Contains xs x × (p x ≡ true)) → cond b (Some z) (find p xs) ≡ Some x → Contains (z ∷ xs) x × (p x ≡ true)
found_one p z x xs true is rest e = let same : z ≡ x = cc in (here z x xs same, ap p (sym same) ∙ is)
found_one p z x xs false is rest e = (later z x xs (rest e).0, (rest e).1)

-- what is found is an element that passes
pub finds_some : {X : Type 0} (p : X → Bool) (xs : List X) (x : X) → find p xs ≡ Some x → Contains xs x × (p x ≡ true)
finds_some p [] x e = absurd (cc)
finds_some p (z ∷ xs) x e = found_one p z x xs (p z) refl (finds_some p xs x) e
