-- The first module that is too large.
use Rattle.std.proofs.Common.{◌≡◌, ◌≢◌, ◌<◌, ◌≤◌, ◌+◌, ◌-◌, ◌∙◌, ◌⊎◌, inl, inr, ℕ, zero, suc, List, length, Bool, true, false, ◌&&◌, Option, None, Some, cond, refl, ap, arith}
use Rattle.std.specs.List.{find, range_with_len}
use Rattle.std.proofs.lemmas.Bool.{cases_eq}
use Rattle.std.proofs.lemmas.Bool.Decides.{nat_tests}
use Rattle.nm_schema_statements.specs.declared.row.Row.{Row}
use Rattle.nm_schema_statements.specs.Rows.{roots}
use Rattle.nm_schema_nodes.specs.Expansion.{height_in, module_row, counts_before, is_large, first_large, comes_before}

pub and-both : (a b : Bool) → (a && b) ≡ true → (a ≡ true) × (b ≡ true)
and-both true b is = (refl, is)
and-both false b is = absurd (cc)

found-case : (p : ℕ → Bool) (a k n : ℕ) → a ≤ n → n < a + suc k → (large : Bool) → p a ≡ large → comes_before n (cond large (Some a) (find p (range_with_len (a + 1) k))) ≡ true
    → (a + 1 ≤ n → n < a + 1 + k → comes_before n (find p (range_with_len (a + 1) k)) ≡ true → p n ≡ false) → (n ≡ a) ⊎ (n ≢ a) → p n ≡ false
found-case p a k n le lt true is before rest e = absurd (grind (arith, nat_tests))
found-case p a k n le lt false is before rest (inl same) = rw same is
found-case p a k n le lt false is before rest (inr differ) = rest (grind arith) (omega (arith, lt)) before

-- what comes before the first that passes doesn't pass
before-found : (p : ℕ → Bool) (a k n : ℕ) → a ≤ n → n < a + k → comes_before n (find p (range_with_len a k)) ≡ true → p n ≡ false
before-found p a zero n le lt before = absurd (omega (arith, le, lt))
before-found p a (suc k) n le lt before = found-case p a k n le lt (p a) refl before (before-found p (a + 1) k n) (cases_eq n a)

pub large-bound : (rows : List Row) (groupings : List (Option ℕ)) (m : ℕ) → is_large rows groupings m ≡ false → counts_before rows groupings (m + 1) ≤ 20000
unfolding is_large
large-bound rows groupings m is = grind (arith, nat_tests)

pub grown-small : (rows : List Row) (groupings : List (Option ℕ)) (m : ℕ) → m < length (roots rows) → comes_before m (first_large rows groupings) ≡ true → is_large rows groupings m ≡ false
unfolding first_large
grown-small rows groupings m lt before = before-found (is_large rows groupings) 0 (length (roots rows)) m (omega arith) (omega (arith, lt)) before

pub grown-bound : (rows : List Row) (groupings : List (Option ℕ)) (m : ℕ) → m < length (roots rows) → comes_before m (first_large rows groupings) ≡ true → counts_before rows groupings (m + 1) ≤ 20000
grown-bound rows groupings m lt before = large-bound rows groupings m (grown-small rows groupings m lt before)

pub large-height : (rows : List Row) (groupings : List (Option ℕ)) (m : ℕ) → is_large rows groupings m ≡ false → height_in rows groupings (module_row rows m) ≤ 65
unfolding is_large
large-height rows groupings m is = grind (arith, nat_tests)

-- ---- the modules from a number on, one after another

module _ (p : ℕ → Bool) where
  abbrev pub from : ℕ → ℕ → Option ℕ
  from m n = find p (range_with_len m (n - m))

  from-more : (m n : ℕ) → m < n → from m n ≡ cond (p m) (Some m) (from (m + 1) n)
  from-more m n lt =
      let more : n - m ≡ suc (n - (m + 1)) = omega arith in
      ap (λ k. find p (range_with_len m k)) more

  pub from-next : (m n : ℕ) → m < n → p m ≡ false → from m n ≡ from (m + 1) n
  from-next m n lt is = from-more m n lt ∙ ap (λ b. cond b (Some m) (from (m + 1) n)) is

  pub from-found : (m n : ℕ) → m < n → p m ≡ true → from m n ≡ Some m
  from-found m n lt is = from-more m n lt ∙ ap (λ b. cond b (Some m) (from (m + 1) n)) is

  pub from-end : (m n : ℕ) → n ≤ m → from m n ≡ None
  from-end m n le =
      let none : n - m ≡ 0 = omega arith in
      ap (λ k. find p (range_with_len m k)) none

pub from-start : (rows : List Row) (groupings : List (Option ℕ)) → from (is_large rows groupings) 0 (length (roots rows)) ≡ first_large rows groupings
unfolding first_large
from-start rows groupings =
    let all : length (roots rows) - 0 ≡ length (roots rows) = omega arith in
    ap (λ k. find (is_large rows groupings) (range_with_len 0 k)) all

pub none-counted : (rows : List Row) (groupings : List (Option ℕ)) → 0 ≡ counts_before rows groupings 0
unfolding counts_before
none-counted rows groupings = refl
