-- Lists that have the values of a function.
use Rattle.std.proofs.Common.{◌≡◌, ◌<◌, ◌≤◌, ◌+◌, ◌∙◌, ◌⊎◌, inl, inr, ℕ, zero, suc, List, [], ◌∷◌, ◌++◌, length, replicate, slice_index_or, refl, sym, ap, arith}
use Rattle.std.proofs.lemmas.Bool.{cases_lt}
use Rattle.std.proofs.lemmas.List.{length-append}

-- the first n values
pub record Lists {X : Type 0} (f : ℕ → X) (none : X) (n : ℕ) (xs : List X) : Type 0 where
  pub size : length xs ≡ n
  pub each : (i : ℕ) → i < n → slice_index_or xs i none ≡ f i

front : {X : Type 0} (xs ys : List X) (i : ℕ) (none : X) → i < length xs → slice_index_or (xs ++ ys) i none ≡ slice_index_or xs i none
front [] ys i none lt = absurd (omega arith)
front (x ∷ xs) ys zero none lt = refl
front (x ∷ xs) ys (suc i) none lt = front xs ys i none (omega arith)

last : {X : Type 0} (xs : List X) (x none : X) → slice_index_or (xs ++ x ∷ []) (length xs) none ≡ x
last [] x none = refl
last (y ∷ xs) x none = last xs x none

pub past : {X : Type 0} (xs : List X) (i : ℕ) (none : X) → length xs ≤ i → slice_index_or xs i none ≡ none
past [] i none le = refl
past (x ∷ xs) zero none le = absurd (omega arith)
past (x ∷ xs) (suc i) none le = past xs i none (omega arith)

pub lists_none : {X : Type 0} (f : ℕ → X) (none : X) → Lists f none 0 []
lists_none f none = record { size = refl; each = λ i lt. absurd (omega arith) }

more_each : {X : Type 0} (f : ℕ → X) (none : X) (n : ℕ) (xs : List X) (x : X) → Lists f none n xs → x ≡ f n → (i : ℕ) → i < n + 1 → (i < n) ⊎ (n ≤ i) → slice_index_or (xs ++ x ∷ []) i none ≡ f i
more_each f none n xs x h is i lt (inl under) = front xs (x ∷ []) i none (omega (arith, h.size)) ∙ h.each i under
more_each f none n xs x h is i lt (inr at) =
    let e : i ≡ length xs = omega (arith, h.size) in
    let g : n ≡ i = omega arith in
    ap (λ k. slice_index_or (xs ++ x ∷ []) k none) e ∙ last xs x none ∙ is ∙ ap f g

-- one more
pub lists_more : {X : Type 0} (f : ℕ → X) (none : X) (n : ℕ) (xs : List X) (x : X) → Lists f none n xs → x ≡ f n → Lists f none (n + 1) (xs ++ x ∷ [])
lists_more f none n xs x h is = record { size = length-append xs (x ∷ []) ∙ ap (λ k. k + 1) h.size; each = λ i lt. more_each f none n xs x h is i lt (cases_lt i n) }

all_each : {X : Type 0} (f : ℕ → X) (none : X) (n : ℕ) (xs : List X) → Lists f none n xs → ((i : ℕ) → n ≤ i → f i ≡ none) → (i : ℕ) → (i < n) ⊎ (n ≤ i) → slice_index_or xs i none ≡ f i
all_each f none n xs h rest i (inl lt) = h.each i lt
all_each f none n xs h rest i (inr le) = past xs i none (omega (arith, h.size)) ∙ sym (rest i le)

-- all of them, where the rest are none
pub lists_all : {X : Type 0} (f : ℕ → X) (none : X) (n : ℕ) (xs : List X) → Lists f none n xs → ((i : ℕ) → n ≤ i → f i ≡ none) → (i : ℕ) → slice_index_or xs i none ≡ f i
lists_all f none n xs h rest i = all_each f none n xs h rest i (cases_lt i n)

-- a list of one value has no other
pub one_value : {X : Type 0} (n i : ℕ) (x : X) → slice_index_or (replicate n x) i x ≡ x
one_value zero i x = refl
one_value (suc n) zero x = refl
one_value (suc n) (suc i) x = one_value n i x
