-- Loops over numbers.
use Rattle.std.proofs.Common.{◌≡◌, ℕ, suc, ◌+◌, ◌-◌, ◌<◌, ◌≤◌, List, [], ◌∷◌, ◌++◌, Bool, true, false, ◌||◌, Option, Some, None, replicate, refl, sym, ap, ◌∙◌, arith}
use Rattle.nm_world.specs.Drain.{found_or, first_from}
use Rattle.nm_world.specs.Report.{any_from, each_from}

-- one of the copies that are left
pub replicate-left : {X : Type 0} (x : X) (n k : ℕ) → k < n → replicate (n - k) x ≡ x ∷ replicate (n - (k + 1)) x
replicate-left x n k h = let e : n - k ≡ suc (n - (k + 1)) = omega arith in rw e refl

-- one of the numbers that are left
pub first_from-left : {A : Type 0} (find : ℕ → Option A) (number n k : ℕ) → k < n
    → first_from find number (n - k) ≡ found_or (find number) (first_from find (number + 1) (n - (k + 1)))
unfolding first_from
first_from-left find number n k h = let e : n - k ≡ suc (n - (k + 1)) = omega arith in rw e refl

pub first_from-none : {A : Type 0} (find : ℕ → Option A) (number : ℕ) → first_from find number 0 ≡ None
unfolding first_from
first_from-none find number = refl

pub any_from-left : (test : ℕ → Bool) (number n k : ℕ) → k < n
    → any_from test number (n - k) ≡ (test number || any_from test (number + 1) (n - (k + 1)))
unfolding any_from
any_from-left test number n k h = let e : n - k ≡ suc (n - (k + 1)) = omega arith in rw e refl

pub any_from-none : (test : ℕ → Bool) (number : ℕ) → any_from test number 0 ≡ false
unfolding any_from
any_from-none test number = refl

pub each_from-left : {A : Type 0} (give : ℕ → List A) (number n k : ℕ) → k < n
    → each_from give number (n - k) ≡ give number ++ each_from give (number + 1) (n - (k + 1))
unfolding each_from
each_from-left give number n k h = let e : n - k ≡ suc (n - (k + 1)) = omega arith in rw e refl

pub each_from-none : {A : Type 0} (give : ℕ → List A) (number : ℕ) → each_from give number 0 ≡ []
unfolding each_from
each_from-none give number = refl

-- ---- a search

module _ {A : Type 0} (find : ℕ → Option A) (place n : ℕ) (whole : Option A) (so_far : first_from find (place + 1) (n - place) ≡ whole) where
  abbrev rest : Option A
  rest = first_from find (place + 1 + 1) (n - (place + 1))

  -- this one is found
  pub found_here : (x : A) → place < n → find (place + 1) ≡ Some x → Some x ≡ whole
  found_here x h is = sym (ap (λ found. found_or found rest) is) ∙ sym (first_from-left find (place + 1) n place h) ∙ so_far

  -- this one isn't
  pub not_here : place < n → find (place + 1) ≡ None → first_from find (place + 1 + 1) (n - (place + 1)) ≡ whole
  not_here h is = sym (ap (λ found. found_or found rest) is) ∙ sym (first_from-left find (place + 1) n place h) ∙ so_far

  -- none is left
  pub nowhere : n ≤ place → None ≡ whole
  nowhere h = let none : n - place ≡ 0 = omega (arith, h) in sym (ap (first_from find (place + 1)) none ∙ first_from-none find (place + 1)) ∙ so_far

module _ (test : ℕ → Bool) (place n : ℕ) (whole : Bool) (so_far : any_from test (place + 1) (n - place) ≡ whole) where
  abbrev others : Bool
  others = any_from test (place + 1 + 1) (n - (place + 1))

  -- this one passes
  pub passes_here : place < n → test (place + 1) ≡ true → true ≡ whole
  passes_here h is = sym (ap (λ b. b || others) is) ∙ sym (any_from-left test (place + 1) n place h) ∙ so_far

  -- this one doesn't
  pub fails_here : place < n → test (place + 1) ≡ false → any_from test (place + 1 + 1) (n - (place + 1)) ≡ whole
  fails_here h is = sym (ap (λ b. b || others) is) ∙ sym (any_from-left test (place + 1) n place h) ∙ so_far

  -- none is left
  pub none_passes : n ≤ place → false ≡ whole
  none_passes h = let none : n - place ≡ 0 = omega (arith, h) in sym (ap (any_from test (place + 1)) none ∙ any_from-none test (place + 1)) ∙ so_far

pub ruleset repeating = (replicate-left)
