-- The words and modules of rows.
use Rattle.std.proofs.Common.{◌≡◌, ℕ, zero, suc, ◌+◌, ◌<◌, List, [], ◌∷◌, ◌++◌, length, get_or, slice_get, true, false, Option, Some, None, if◌then◌else◌, refl, sym, ap, ◌∙◌, subst, arith, append_assoc, length-append}
use Rattle.nm_yang.specs.Tree.{Tree, Trees, statement, none, more}
use Rattle.nm_yang.specs.Grammar.{keyword_of}
use Rattle.nm_schema_statements.specs.declared.row.Row.{Row}
use Rattle.nm_schema_statements.specs.Word.{word_of}
use Rattle.nm_schema_statements.specs.Rows.{is_skipped, is_opened, row_for, rows_from, rows_within, rows_after, same_parent, those_in, roots, module_in, module_at}

-- ---- what holds of each row of a segment of all rows

abbrev pub has_module : List Row → Option ℕ → ℕ → Type 0
has_module whole None owner = Unit {0}
has_module whole (Some p) owner = module_at whole p ≡ Some owner

abbrev pub RightIn : List Row → List Row → Type 0
RightIn whole [] = Unit {0}
RightIn whole (r ∷ rows) = (r.word ≡ word_of r.keyword) × has_module whole r.parent r.module × RightIn whole rows

right-append : (whole xs ys : List Row) → RightIn whole xs → RightIn whole ys → RightIn whole (xs ++ ys)
right-append whole [] ys a b = b
right-append whole (x ∷ xs) ys a b = (a.0, a.1, right-append whole xs ys a.2 b)

at_length : (before : List Row) (r : Row) (after : List Row) → slice_get (before ++ r ∷ after) (length before) ≡ Some r
at_length [] r after = refl
at_length (b ∷ before) r after = at_length before r after

mutual
  unfolding rows_from rows_within

  right_from : (t : Tree) (owner : ℕ) (parent : Option ℕ) (n : ℕ) (whole before after : List Row) → whole ≡ before ++ (rows_from owner parent n t ++ after) → n ≡ length before → has_module whole parent owner
      → RightIn whole (rows_from owner parent n t)
  right_from (statement keyword argument place below) owner parent n whole before after is at has =
      (elim (is_opened (word_of keyword)) as (λ b.
      whole ≡ before ++ ((row_for owner parent keyword argument place ∷ (if b then rows_within owner n (suc n) below else [])) ++ after)
      → RightIn whole (row_for owner parent keyword argument place ∷ (if b then rows_within owner n (suc n) below else []))) [
        | true ↦ λ is.
            let row : Row = row_for owner parent keyword argument place in
            let inner : List Row = rows_within owner n (suc n) below in
            let mine : module_at whole n ≡ Some owner = ap (λ (l : List Row). module_in (slice_get l n)) is ∙ ap (λ k. module_in (slice_get (before ++ row ∷ (inner ++ after)) k)) at ∙ ap module_in (at_length before row (inner ++ after)) in
            let parts : whole ≡ (before ++ row ∷ []) ++ (inner ++ after) = is ∙ sym (append_assoc before (row ∷ []) (inner ++ after)) in
            let next : suc n ≡ length (before ++ row ∷ []) = let e = length-append before (row ∷ []) in omega arith in
            (refl, has, right_within below owner n (suc n) whole (before ++ row ∷ []) after parts next mine)
        | false ↦ λ is. (refl, has, tt)
      ]) is

  right_within : (ts : Trees) (owner parent n : ℕ) (whole before after : List Row) → whole ≡ before ++ (rows_within owner parent n ts ++ after) → n ≡ length before → module_at whole parent ≡ Some owner
      → RightIn whole (rows_within owner parent n ts)
  right_within none owner parent n whole before after is at has = tt
  right_within (more t ts) owner parent n whole before after is at has =
      (elim (is_skipped (word_of (keyword_of t))) as (λ b.
      whole ≡ before ++ ((if b then rows_within owner parent n ts else (rows_from owner (Some parent) n t ++ rows_within owner parent (n + length (rows_from owner (Some parent) n t)) ts)) ++ after)
      → RightIn whole (if b then rows_within owner parent n ts else (rows_from owner (Some parent) n t ++ rows_within owner parent (n + length (rows_from owner (Some parent) n t)) ts))) [
        | true ↦ λ is. right_within ts owner parent n whole before after is at has
        | false ↦ λ is.
            let first : List Row = rows_from owner (Some parent) n t in
            let rest : List Row = rows_within owner parent (n + length first) ts in
            let ahead : whole ≡ before ++ (first ++ (rest ++ after)) = is ∙ ap (λ (l : List Row). before ++ l) (append_assoc first rest after) in
            let parts : whole ≡ (before ++ first) ++ (rest ++ after) = ahead ∙ sym (append_assoc before first (rest ++ after)) in
            let next : n + length first ≡ length (before ++ first) = let e = length-append before first in omega arith in
            right-append whole first rest (right_from t owner (Some parent) n whole before (rest ++ after) ahead at has) (right_within ts owner parent (n + length first) whole (before ++ first) after parts next has)
      ]) is

right_after : (ts : List Tree) (k n : ℕ) (whole before : List Row) → whole ≡ before ++ rows_after k n ts → n ≡ length before → RightIn whole (rows_after k n ts)
unfolding rows_after
right_after [] k n whole before is at = tt
right_after (t ∷ ts) k n whole before is at =
    let first : List Row = rows_from k None n t in
    let rest : List Row = rows_after (suc k) (n + length first) ts in
    let parts : whole ≡ (before ++ first) ++ rest = is ∙ sym (append_assoc before first rest) in
    let next : n + length first ≡ length (before ++ first) = let e = length-append before first in omega arith in
    right-append whole first rest (right_from t k None n whole before rest is at tt) (right_after ts (suc k) (n + length first) whole (before ++ first) parts next)

right_word : (whole rows : List Row) (i : ℕ) (r : Row) → RightIn whole rows → slice_get rows i ≡ Some r → r.word ≡ word_of r.keyword
right_word whole [] i r right at = cc
right_word whole (s ∷ rows) zero r right at = let e : s ≡ r = cc in subst (λ (x : Row). x.word ≡ word_of x.keyword) e right.0
right_word whole (s ∷ rows) (suc i) r right at = right_word whole rows i r right.2 at

right_module : (whole rows : List Row) (i p : ℕ) (r : Row) → RightIn whole rows → slice_get rows i ≡ Some r → r.parent ≡ Some p → module_at whole p ≡ Some r.module
right_module whole [] i p r right at is = cc
right_module whole (s ∷ rows) zero p r right at is =
    let e : s ≡ r = cc in
    let h : has_module whole r.parent r.module = subst (λ (x : Row). has_module whole x.parent x.module) e right.1 in
    subst (λ (x : Option ℕ). has_module whole x r.module) is h
right_module whole (s ∷ rows) (suc i) p r right at is = right_module whole rows i p r right.2 at is

-- ---- the rows of modules themselves

those_in-append : (n : ℕ) (p : Option ℕ) (xs ys : List Row) → those_in n p (xs ++ ys) ≡ those_in n p xs ++ those_in (n + length xs) p ys
unfolding those_in
those_in-append n p [] ys = let e : n + 0 ≡ n = omega arith in rw e refl
those_in-append n p (x ∷ xs) ys =
    let e : n + length (x ∷ xs) ≡ suc n + length xs = omega arith in
    let h = those_in-append (suc n) p xs ys in
    rw e (elim (same_parent x.parent p) as (λ b. (if b then n ∷ those_in (suc n) p (xs ++ ys) else those_in (suc n) p (xs ++ ys)) ≡ (if b then n ∷ those_in (suc n) p xs else those_in (suc n) p xs) ++ those_in (suc n + length xs) p ys) [
      | true ↦ ap (λ (l : List ℕ). n ∷ l) h
      | false ↦ h
    ])

mutual
  unfolding rows_from rows_within those_in

  tops_from : (t : Tree) (owner parent n m : ℕ) → those_in m None (rows_from owner (Some parent) n t) ≡ []
  tops_from (statement keyword argument place below) owner parent n m =
      elim (is_opened (word_of keyword)) as (λ b. those_in (suc m) None (if b then rows_within owner n (suc n) below else []) ≡ []) [
        | true ↦ tops_within below owner n (suc n) (suc m)
        | false ↦ refl
      ]

  tops_within : (ts : Trees) (owner parent n m : ℕ) → those_in m None (rows_within owner parent n ts) ≡ []
  tops_within none owner parent n m = refl
  tops_within (more t ts) owner parent n m =
      elim (is_skipped (word_of (keyword_of t))) as (λ b. those_in m None (if b then rows_within owner parent n ts else (rows_from owner (Some parent) n t ++ rows_within owner parent (n + length (rows_from owner (Some parent) n t)) ts)) ≡ []) [
        | true ↦ tops_within ts owner parent n m
        | false ↦
            let first : List Row = rows_from owner (Some parent) n t in
            those_in-append m None first (rows_within owner parent (n + length first) ts)
            ∙ ap (λ (l : List ℕ). l ++ those_in (m + length first) None (rows_within owner parent (n + length first) ts)) (tops_from t owner parent n m)
            ∙ tops_within ts owner parent (n + length first) (m + length first)
      ]

-- a module's rows begin with its own
top_from : (t : Tree) (owner n m : ℕ) → those_in m None (rows_from owner None n t) ≡ m ∷ []
unfolding rows_from those_in
top_from (statement keyword argument place below) owner n m =
    elim (is_opened (word_of keyword)) as (λ b. m ∷ those_in (suc m) None (if b then rows_within owner n (suc n) below else []) ≡ m ∷ []) [
      | true ↦ ap (λ (l : List ℕ). m ∷ l) (tops_within below owner n (suc n) (suc m))
      | false ↦ refl
    ]

head_module : (t : Tree) (owner n : ℕ) (before after : List Row) → module_at (before ++ (rows_from owner None n t ++ after)) (length before) ≡ Some owner
unfolding rows_from
head_module (statement keyword argument place below) owner n before after =
    ap module_in (at_length before (row_for owner None keyword argument place) ((if is_opened (word_of keyword) then rows_within owner n (suc n) below else []) ++ after))

tops_after : (ts : List Tree) (k n : ℕ) → length (those_in n None (rows_after k n ts)) ≡ length ts
unfolding rows_after those_in
tops_after [] k n = refl
tops_after (t ∷ ts) k n =
    let first : List Row = rows_from k None n t in
    let rest : List Row = rows_after (suc k) (n + length first) ts in
    let e : those_in n None (first ++ rest) ≡ n ∷ those_in (n + length first) None rest = those_in-append n None first rest ∙ ap (λ (l : List ℕ). l ++ those_in (n + length first) None rest) (top_from t k n n) in
    ap (λ (l : List ℕ). length l) e ∙ ap (λ i. suc i) (tops_after ts (suc k) (n + length first))

modules_step : (i k n : ℕ) (whole : List Row) (tops : List ℕ) (count : ℕ) → module_at whole n ≡ Some k → ((j : ℕ) → j < count → module_at whole (get_or tops j 0) ≡ Some (suc k + j))
    → i < suc count → module_at whole (get_or (n ∷ tops) i 0) ≡ Some (k + i)
modules_step zero k n whole tops count first others lt = let e : k ≡ k + 0 = omega arith in first ∙ ap (λ j. Some j) e
modules_step (suc i) k n whole tops count first others lt = let e : suc k + i ≡ k + suc i = omega arith in others i (omega arith) ∙ ap (λ j. Some j) e

modules_after : (ts : List Tree) (k n : ℕ) (whole before : List Row) → whole ≡ before ++ rows_after k n ts → n ≡ length before
    → (i : ℕ) → i < length ts → module_at whole (get_or (those_in n None (rows_after k n ts)) i 0) ≡ Some (k + i)
unfolding rows_after those_in
modules_after [] k n whole before is at i lt = absurd (omega arith)
modules_after (t ∷ ts) k n whole before is at i lt =
    let first : List Row = rows_from k None n t in
    let rest : List Row = rows_after (suc k) (n + length first) ts in
    let e : those_in n None (first ++ rest) ≡ n ∷ those_in (n + length first) None rest = those_in-append n None first rest ∙ ap (λ (l : List ℕ). l ++ those_in (n + length first) None rest) (top_from t k n n) in
    let parts : whole ≡ (before ++ first) ++ rest = is ∙ sym (append_assoc before first rest) in
    let next : n + length first ≡ length (before ++ first) = let e = length-append before first in omega arith in
    ap (λ (l : List ℕ). module_at whole (get_or l i 0)) e ∙ (modules_step i k n whole (those_in (n + length first) None rest) (length ts)
    (ap (λ (l : List Row). module_at l n) is ∙ ap (λ j. module_at (before ++ (first ++ rest)) j) at ∙ head_module t k n before rest)
    (λ j below. modules_after ts (suc k) (n + length first) whole (before ++ first) parts next j below) (omega arith))

pub words_of_rows : (modules : List Tree) (i : ℕ) (r : Row) → slice_get (rows_after 0 0 modules) i ≡ Some r → r.word ≡ word_of r.keyword
words_of_rows modules i r at = right_word (rows_after 0 0 modules) (rows_after 0 0 modules) i r (right_after modules 0 0 (rows_after 0 0 modules) [] refl refl) at

pub modules_of_rows : (modules : List Tree) (i p : ℕ) (r : Row) → slice_get (rows_after 0 0 modules) i ≡ Some r → r.parent ≡ Some p → module_at (rows_after 0 0 modules) p ≡ Some r.module
modules_of_rows modules i p r at is = right_module (rows_after 0 0 modules) (rows_after 0 0 modules) i p r (right_after modules 0 0 (rows_after 0 0 modules) [] refl refl) at is

pub count_of_tops : (modules : List Tree) → length (roots (rows_after 0 0 modules)) ≡ length modules
count_of_tops modules = tops_after modules 0 0

pub modules_of_tops : (modules : List Tree) (k : ℕ) → k < length (roots (rows_after 0 0 modules)) → module_at (rows_after 0 0 modules) (get_or (roots (rows_after 0 0 modules)) k 0) ≡ Some k
modules_of_tops modules k lt =
    let count = count_of_tops modules in
    let e : 0 + k ≡ k = omega arith in
    modules_after modules 0 0 (rows_after 0 0 modules) [] refl refl k (omega arith) ∙ ap (λ j. Some j) e
