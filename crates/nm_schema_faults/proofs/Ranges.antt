-- Numbers in a row: which is the first, and whether there is one.
use Rattle.std.proofs.Common.{◌≡◌, ◌∙◌, ℕ, zero, suc, ◌+◌, ◌<◌, List, [], ◌∷◌, ◌++◌, map, Bool, true, false, ◌||◌, Option, Some, None, refl, sym, ap, arith}
use Rattle.std.specs.List.{range_with_len, list_any}
use Rattle.std.proofs.lemmas.List.FromFn.{map-range_with_len_more}
use Rattle.nm_schema_faults.specs.Fault.{first_some}

-- ---- the first that is there

first_some-append : {X : Type 0} (xs ys : List (Option X)) → first_some xs ≡ None → first_some (xs ++ ys) ≡ first_some ys
first_some-append [] ys none = refl
first_some-append (None ∷ xs) ys none = first_some-append xs ys none
first_some-append (Some x ∷ xs) ys none = cc

-- no number up to n has one
pub none_more : {X : Type 0} (f : ℕ → Option X) (n : ℕ) → first_some (map f (range_with_len 0 n)) ≡ None → f n ≡ None → first_some (map f (range_with_len 0 (n + 1))) ≡ None
none_more f n before none =
    ap first_some (map-range_with_len_more f 0 n n (omega arith))
    ∙ first_some-append (map f (range_with_len 0 n)) (f n ∷ []) before
    ∙ ap (λ o. first_some (o ∷ [])) none

first_from : {X : Type 0} (f : ℕ → Option X) (a k n at : ℕ) (x : X) → n < k → at ≡ a + n → first_some (map f (range_with_len a n)) ≡ None → f at ≡ Some x → first_some (map f (range_with_len a k)) ≡ Some x
first_from f a zero n at x lt e before here = absurd (omega (arith, lt))
first_from f a (suc k) zero at x lt e before here =
    let same : at ≡ a = omega (arith, e) in
    ap (λ o. first_some (o ∷ map f (range_with_len (a + 1) k))) (ap f (sym same) ∙ here)
first_from f a (suc k) (suc n) at x lt e before here =
    (elim (f a) as (λ o. first_some (o ∷ map f (range_with_len (a + 1) n)) ≡ None → first_some (o ∷ map f (range_with_len (a + 1) k)) ≡ Some x) [
      | None ↦ λ none. first_from f (a + 1) k n at x (omega (arith, lt)) (omega (arith, e)) none here
      | Some y ↦ λ none. cc
    ]) before

-- the first number that has one gives it
pub first_found : {X : Type 0} (f : ℕ → Option X) (k n : ℕ) (x : X) → n < k → first_some (map f (range_with_len 0 n)) ≡ None → Some x ≡ f n → Some x ≡ first_some (map f (range_with_len 0 k))
first_found f k n x lt before here = sym (first_from f 0 k n n x lt (omega arith) before (sym here))

-- ---- whether some pass a test

any_from : (f : ℕ → Bool) (a n at : ℕ) → at ≡ a + n → list_any f (range_with_len a (suc n)) ≡ (list_any f (range_with_len a n) || f at)
any_from f a zero at e =
    let same : at ≡ a = omega (arith, e) in
    or_false (f a) ∙ ap f (sym same)
  where
    or_false : (b : Bool) → (b || false) ≡ b
    or_false true = refl
    or_false false = refl
any_from f a (suc n) at e =
    ap (λ b. f a || b) (any_from f (a + 1) n at (omega (arith, e))) ∙ either (f a) (list_any f (range_with_len (a + 1) n)) (f at)
  where
    either : (a b c : Bool) → (a || (b || c)) ≡ ((a || b) || c)
    either true b c = refl
    either false b c = refl

-- one number more
pub any_more : (f : ℕ → Bool) (n : ℕ) → list_any f (range_with_len 0 (n + 1)) ≡ (list_any f (range_with_len 0 n) || f n)
any_more f n =
    let next : n + 1 ≡ suc n = omega arith in
    ap (λ k. list_any f (range_with_len 0 k)) next ∙ any_from f 0 n n (omega arith)
