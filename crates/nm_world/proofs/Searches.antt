-- A search over numbers from one on, at one of its turns.
use Rattle.std.proofs.Common.{◌≡◌, ℕ, ◌+◌, ◌-◌, ◌<◌, ◌≤◌, List, ◌++◌, Option, Some, None, length, get_or, slice_get, option_copied, Bor, sym, ap, ◌∙◌, arith, append_assoc, append-nil}
use Rattle.std.specs.Option.{IfSome, MatchOption}
use Rattle.std.proofs.lemmas.Option.{slice_get_past, slice_get-get_or}
use Rattle.nm_world.specs.Drain.{first_from}
use Rattle.nm_world.specs.Report.{each_from}
use Rattle.nm_world.proofs.Loops.{found_here, not_here, each_from-left, each_from-none}

-- what is got is the element at the place
pub got : {A : Type 0} (r : Option (Bor A)) (xs : List A) (k : ℕ) (Q : Bor A → Type 0) → MatchOption r (length xs ≤ k) (λ x. (k < length xs) × Q x) → IfSome r (λ x. x.now ≡ get_or xs k x.now)
    → option_copied r ≡ slice_get xs k
got None xs k Q m at = sym (slice_get_past xs k m)
got (Some x) xs k Q m at = ap Some at ∙ sym (slice_get-get_or xs k x.now m.0)

-- all of them, before the first
pub from_start : {A : Type 0} (find : ℕ → Option A) (n : ℕ) → first_from find 1 (n - 0) ≡ first_from find 1 n
from_start find n = let e : n - 0 ≡ n = omega arith in ap (first_from find 1) e

module _ {A : Type 0} (find : ℕ → Option A) (place n number : ℕ) (whole r : Option A) (named : number ≡ place + 1) (given : r ≡ find number)
    (so_far : first_from find (place + 1) (n - place) ≡ whole) (within : place < n) where
  pub found_at : (x : A) → r ≡ Some x → Some x ≡ whole
  found_at x is = found_here find place n whole so_far x within (ap find (sym named) ∙ sym given ∙ is)

  pub not_at : r ≡ None → first_from find (place + 1 + 1) (n - (place + 1)) ≡ whole
  not_at is = not_here find place n whole so_far within (ap find (sym named) ∙ sym given ∙ is)

-- ---- what each of them gives

module _ {A : Type 0} (give : ℕ → List A) where
  pub all_of : (old : List A) (n : ℕ) → old ++ each_from give 1 (n - 0) ≡ old ++ each_from give 1 n
  all_of old n = let e : n - 0 ≡ n = omega arith in ap (λ k. old ++ each_from give 1 k) e

  -- one more is given
  pub one_given : (so_far after whole : List A) (place n number : ℕ) → number ≡ place + 1 → after ≡ so_far ++ give number
      → so_far ++ each_from give (place + 1) (n - place) ≡ whole → place < n → after ++ each_from give (place + 1 + 1) (n - (place + 1)) ≡ whole
  one_given so_far after whole place n number named is left within =
      ap (λ (xs : List A). xs ++ each_from give (place + 1 + 1) (n - (place + 1))) (is ∙ ap (λ k. so_far ++ give k) named)
      ∙ append_assoc so_far (give (place + 1)) (each_from give (place + 1 + 1) (n - (place + 1)))
      ∙ ap (λ xs. so_far ++ xs) (sym (each_from-left give (place + 1) n place within)) ∙ left

  -- none is left
  pub all_given : (so_far whole : List A) (place n : ℕ) → so_far ++ each_from give (place + 1) (n - place) ≡ whole → n ≤ place → so_far ≡ whole
  all_given so_far whole place n left over =
      let none : n - place ≡ 0 = omega (arith, over) in
      sym (append-nil so_far) ∙ ap (λ xs. so_far ++ xs) (sym (ap (each_from give (place + 1)) none ∙ each_from-none give (place + 1))) ∙ left
