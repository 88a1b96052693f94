-- In groups all runs are counted, and the first way to each end is kept.
use Rattle.std.proofs.Common.{◌≡◌, ℕ, ◌+◌, List, [], ◌∷◌, ◌++◌, Bool, true, false, cond, Option, Some, None, refl, sym, ap, ◌∙◌, arith}
use Rattle.std.specs.Cmp.{IsEquivalence}
use Rattle.std.specs.List.{sum_by}
use Rattle.std.proofs.lemmas.List.Sums.{sum_by-cons}
use Rattle.nm_explore_ways.specs.declared.put.Put.{Put}
use Rattle.nm_explore_groups.specs.declared.group.Group.{Group}
use Rattle.nm_explore_groups.specs.Groups.{added, first_of, grouped, joined, merged, runs_in, runs_of}
use Rattle.nm_explore_groups.proofs.Merged.{added_by}

-- the runs of a group, where its end passes a test
abbrev weight : {End : Type 0} → (End → Bool) → Group End → ℕ
weight test group = cond (test group.end) group.runs 0

module _ {End : Type 0} (alike : End → End → Bool) (test : End → Bool) (fits : (a b : End) → alike a b ≡ true → test a ≡ test b) where
  weighed : (more : Group End) (gs : List (Group End)) → sum_by (weight test) (added alike gs more) ≡ sum_by (weight test) gs + weight test more
  weighed more [] = sum_by-cons (weight test) more [] ∙ turn (weight test more)
    where
      turn : (n : ℕ) → n + 0 ≡ 0 + n
      turn n = omega arith
  weighed more (x ∷ gs) = by_same (weighed more gs) (alike x.end more.end) refl
    where
      shared : (c : Bool) (a b n : ℕ) → cond c (a + b) 0 + n ≡ cond c a 0 + n + cond c b 0
      shared true a b n = omega arith
      shared false a b n = omega arith

      nested : (a b c : ℕ) → a + (b + c) ≡ a + b + c
      nested a b c = omega arith

      by_same : sum_by (weight test) (added alike gs more) ≡ sum_by (weight test) gs + weight test more → (b : Bool) → alike x.end more.end ≡ b
          → sum_by (weight test) (added alike (x ∷ gs) more) ≡ sum_by (weight test) (x ∷ gs) + weight test more
      by_same rest true e =
          ap (sum_by (weight test)) (added_by alike true x more gs e) ∙ sum_by-cons (weight test) (joined x more) gs
          ∙ shared (test x.end) x.runs more.runs (sum_by (weight test) gs)
          ∙ ap (λ c. cond (test x.end) x.runs 0 + sum_by (weight test) gs + cond c more.runs 0) (fits x.end more.end e)
          ∙ ap (λ n. n + weight test more) (sym (sum_by-cons (weight test) x gs))
      by_same rest false e =
          ap (sum_by (weight test)) (added_by alike false x more gs e) ∙ sum_by-cons (weight test) x (added alike gs more)
          ∙ ap (λ n. weight test x + n) rest ∙ nested (weight test x) (sum_by (weight test) gs) (weight test more)
          ∙ ap (λ n. n + weight test more) (sym (sum_by-cons (weight test) x gs))

  weighed_all : (gs runs : List (Group End)) → sum_by (weight test) (merged alike gs runs) ≡ sum_by (weight test) gs + sum_by (weight test) runs
  weighed_all gs [] = none (sum_by (weight test) gs)
    where
      none : (n : ℕ) → n ≡ n + 0
      none n = omega arith
  weighed_all gs (run ∷ runs) =
      weighed_all (added alike gs run) runs ∙ ap (λ n. n + sum_by (weight test) runs) (weighed run gs)
      ∙ nested (sum_by (weight test) gs) (weight test run) (sum_by (weight test) runs)
      ∙ ap (λ n. sum_by (weight test) gs + n) (sym (sum_by-cons (weight test) run runs))
    where
      nested : (a b c : ℕ) → a + b + c ≡ a + (b + c)
      nested a b c = omega arith

from_none : (n : ℕ) → 0 + n ≡ n
from_none n = omega arith

module _ {End : Type 0} (alike : End → End → Bool) where
  -- one more group has so many runs more
  pub runs_added : (gs : List (Group End)) (more : Group End) → runs_in (added alike gs more) ≡ runs_in gs + more.runs
  runs_added gs more = weighed alike (λ end. true) (λ a b e. refl) more gs

  pub all_counted : (runs : List (Group End)) → runs_in (grouped alike runs) ≡ runs_in runs
  all_counted runs = weighed_all alike (λ end. true) (λ a b e. refl) [] runs ∙ from_none (runs_in runs)

module _ {End : Type 0} (alike : End → End → Bool) (laws : IsEquivalence alike) where
  pub each_counted : (end : End) (runs : List (Group End)) → runs_of alike end (grouped alike runs) ≡ runs_of alike end runs
  each_counted end runs = weighed_all alike (λ a. alike a end) (λ a b e. laws.congr a b end e) [] runs ∙ from_none (runs_of alike end runs)

  -- ---- the first way

  -- the first of two, where it is there
  abbrev or_later : Option (List Put) → Option (List Put) → Option (List Put)
  or_later (Some way) later = Some way
  or_later None later = later

  first_append : (end : End) (xs ys : List (Group End)) → first_of alike end (xs ++ ys) ≡ or_later (first_of alike end xs) (first_of alike end ys)
  first_append end [] ys = refl
  first_append end (x ∷ xs) ys = by_test (alike x.end end) (first_append end xs ys)
    where
      by_test : (b : Bool) → first_of alike end (xs ++ ys) ≡ or_later (first_of alike end xs) (first_of alike end ys)
          → cond b (Some x.first) (first_of alike end (xs ++ ys)) ≡ or_later (cond b (Some x.first) (first_of alike end xs)) (first_of alike end ys)
      by_test true rest = refl
      by_test false rest = rest

  first_added : (end : End) (more : Group End) (gs : List (Group End)) → first_of alike end (added alike gs more) ≡ or_later (first_of alike end gs) (first_of alike end (more ∷ []))
  first_added end more [] = refl
  first_added end more (x ∷ gs) = by_same (first_added end more gs) (alike x.end more.end) refl
    where
      shared : (c : Bool) (o : Option (List Put)) → cond c (Some x.first) o ≡ or_later (cond c (Some x.first) o) (cond c (Some more.first) None)
      shared true o = refl
      shared false (Some way) = refl
      shared false None = refl

      passed : (c : Bool) (o p : Option (List Put)) → cond c (Some x.first) (or_later o p) ≡ or_later (cond c (Some x.first) o) p
      passed true o p = refl
      passed false o p = refl

      by_same : first_of alike end (added alike gs more) ≡ or_later (first_of alike end gs) (first_of alike end (more ∷ [])) → (b : Bool) → alike x.end more.end ≡ b
          → first_of alike end (added alike (x ∷ gs) more) ≡ or_later (first_of alike end (x ∷ gs)) (first_of alike end (more ∷ []))
      by_same rest true e =
          ap (first_of alike end) (added_by alike true x more gs e) ∙ shared (alike x.end end) (first_of alike end gs)
          ∙ ap (λ c. or_later (first_of alike end (x ∷ gs)) (cond c (Some more.first) None)) (laws.congr x.end more.end end e)
      by_same rest false e =
          ap (first_of alike end) (added_by alike false x more gs e) ∙ ap (λ o. cond (alike x.end end) (Some x.first) o) rest
          ∙ passed (alike x.end end) (first_of alike end gs) (first_of alike end (more ∷ []))

  first_merged : (end : End) (gs runs : List (Group End)) → first_of alike end (merged alike gs runs) ≡ or_later (first_of alike end gs) (first_of alike end runs)
  first_merged end gs [] = none (first_of alike end gs)
    where
      none : (o : Option (List Put)) → o ≡ or_later o None
      none (Some way) = refl
      none None = refl
  first_merged end gs (run ∷ runs) =
      first_merged end (added alike gs run) runs ∙ ap (λ o. or_later o (first_of alike end runs)) (first_added end run gs)
      ∙ nested (first_of alike end gs) (first_of alike end (run ∷ [])) (first_of alike end runs)
      ∙ ap (or_later (first_of alike end gs)) (sym (first_append end (run ∷ []) runs))
    where
      nested : (o p q : Option (List Put)) → or_later (or_later o p) q ≡ or_later o (or_later p q)
      nested (Some way) p q = refl
      nested None p q = refl

  pub first_kept : (end : End) (runs : List (Group End)) → first_of alike end (grouped alike runs) ≡ first_of alike end runs
  first_kept end runs = first_merged end [] runs
