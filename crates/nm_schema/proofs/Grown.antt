-- Each module is expanded where no fault is found (this project's own: the limits).
use Rattle.std.proofs.Common.{◌≡◌, ◌∙◌, ◌<◌, ◌+◌, ◌⊎◌, inl, inr, ℕ, zero, suc, List, [], ◌∷◌, ◌++◌, length, Bool, true, false, cond, ◌&&◌, ◌==◌, Option, Some, None, get_or, slice_get, refl, sym, ap, subst, arith}
use Rattle.std.specs.List.{range_with_len}
use Rattle.std.proofs.lemmas.Option.{same_Some}
use Rattle.nm_yang.specs.Tree.{Tree, Trees, statement, none, more}
use Rattle.nm_yang.specs.Grammar.{keyword_of}
use Rattle.nm_schema_statements.specs.declared.row.Row.{Row}
use Rattle.nm_schema_statements.specs.Word.{word_of}
use Rattle.nm_schema_statements.specs.Rows.{is_opened, is_skipped, row_for, rows_from, rows_within, rows_after, rows_of, roots, module_in, AreRows}
use Rattle.nm_schema_names.specs.Named.{top, row_at}
use Rattle.nm_schema_uses.specs.Config.{LeadsBy}
use Rattle.nm_schema_uses.specs.Holding.{holding}
use Rattle.nm_schema_typing.specs.Listing.{is_at}
use Rattle.nm_schema_nodes.specs.Expansion.{module_row, first_large, is_large, comes_before, has_count, is_grown}
use Rattle.nm_schema_nodes.proofs.Growth.{module_row-is}
use Rattle.nm_schema_nodes.proofs.Scanning.{root-within}
use Rattle.nm_schema_faults.specs.Facts.{definitions}
use Rattle.nm_schema_faults.specs.Fault.{is_outermost, is_last, large_by, large_in, large_at}
use Rattle.nm_schema.proofs.Elements.{of_range, finds_some}
use Rattle.nm_schema.proofs.Claims.{AreOrderly}
use Rattle.nm_schema.proofs.Orderly.{row_there}
use Rattle.nm_schema.proofs.Membered.{count_known}

-- ---- each module has a last row

abbrev AreOf : ℕ → List Row → Type 0
AreOf k [] = Unit {0}
AreOf k (r ∷ rows) = (r.«module» ≡ k) × AreOf k rows

of_append : (k : ℕ) (xs ys : List Row) → AreOf k xs → AreOf k ys → AreOf k (xs ++ ys)
of_append k [] ys a b = b
of_append k (x ∷ xs) ys a b = (a.0, of_append k xs ys a.1 b)

mutual
  unfolding rows_from rows_within

  of_from : (t : Tree) (owner : ℕ) (parent : Option ℕ) (n : ℕ) → AreOf owner (rows_from owner parent n t)
  of_from (statement keyword argument place below) owner parent n =
      elim (is_opened (word_of keyword)) as (λ b. AreOf owner (row_for owner parent keyword argument place ∷ (cond b (rows_within owner n (suc n) below) []))) [
        | true ↦ (refl, of_within below owner n (suc n))
        | false ↦ (refl, tt)
      ]

  of_within : (ts : Trees) (owner parent n : ℕ) → AreOf owner (rows_within owner parent n ts)
  of_within none owner parent n = tt
  of_within (more t ts) owner parent n =
      elim (is_skipped (word_of (keyword_of t))) as (λ b. AreOf owner (cond b (rows_within owner parent n ts) (rows_from owner (Some parent) n t ++ rows_within owner parent (n + length (rows_from owner (Some parent) n t)) ts))) [
        | true ↦ of_within ts owner parent n
        | false ↦
            let first : List Row = rows_from owner (Some parent) n t in
            of_append owner first (rows_within owner parent (n + length first) ts) (of_from t owner (Some parent) n) (of_within ts owner parent (n + length first))
      ]

of_at : (k : ℕ) (xs : List Row) (i : ℕ) (r : Row) → AreOf k xs → slice_get xs i ≡ Some r → r.«module» ≡ k
of_at k [] i r are e = absurd (cc)
of_at k (x ∷ xs) zero r are e = let same : x ≡ r = cc in subst (λ (y : Row). y.«module» ≡ k) same are.0
of_at k (x ∷ xs) (suc i) r are e = of_at k xs i r are.1 e

last_of : (x : Row) (xs : List Row) → (r : Row) × (slice_get (x ∷ xs) (length xs) ≡ Some r)
last_of x [] = (x, refl)
last_of x (y ∷ xs) = last_of y xs

get_left : (xs ys : List Row) (i : ℕ) (r : Row) → slice_get xs i ≡ Some r → slice_get (xs ++ ys) i ≡ Some r
get_left [] ys i r e = absurd (cc)
get_left (x ∷ xs) ys zero r e = e
get_left (x ∷ xs) ys (suc i) r e = get_left xs ys i r e

get_right : (xs ys : List Row) (k : ℕ) → slice_get (xs ++ ys) (length xs + k) ≡ slice_get ys k
get_right [] ys k = let at : 0 + k ≡ k = omega arith in ap (slice_get ys) at
get_right (x ∷ xs) ys k =
    let at : suc (length xs) + k ≡ suc (length xs + k) = omega arith in
    ap (slice_get (x ∷ (xs ++ ys))) at ∙ get_right xs ys k

get_both : (xs ys : List Row) (i : ℕ) (r : Row) → slice_get (xs ++ ys) i ≡ Some r → (slice_get xs i ≡ Some r) ⊎ ((k : ℕ) × (slice_get ys k ≡ Some r))
get_both [] ys i r e = inr (i, e)
get_both (x ∷ xs) ys zero r e = inl e
get_both (x ∷ xs) ys (suc i) r e = get_both xs ys i r e

-- the last row of module m
record IsLastOf (rows : List Row) (m : ℕ) : Type 0 where
  at : ℕ
  row : Row
  there : slice_get rows at ≡ Some row
  owner : row.«module» ≡ m
  last : is_outermost (slice_get rows (at + 1)) ≡ true

begins : (k n : ℕ) (ts : List Tree) → is_outermost (slice_get (rows_after k n ts) 0) ≡ true
unfolding rows_after rows_from
begins k n [] = refl
begins k n (statement keyword argument place below ∷ ts) = refl

ends : (k : ℕ) (x : Row) (xs rest : List Row) → AreOf k (x ∷ xs) → is_outermost (slice_get rest 0) ≡ true → IsLastOf ((x ∷ xs) ++ rest) k
ends k x xs rest are next =
    let l = last_of x xs in
    let at : length xs + 1 ≡ length (x ∷ xs) + 0 = omega arith in
    record {
      at = length xs;
      row = l.0;
      there = get_left (x ∷ xs) rest (length xs) l.0 l.1;
      owner = of_at k (x ∷ xs) (length xs) l.0 are l.1;
      last = ap (λ j. is_outermost (slice_get ((x ∷ xs) ++ rest) j)) at ∙ ap is_outermost (get_right (x ∷ xs) rest 0) ∙ next;
    }

first_ends : (k n : ℕ) (t : Tree) (rest : List Row) → is_outermost (slice_get rest 0) ≡ true → IsLastOf (rows_from k None n t ++ rest) k
unfolding rows_from
first_ends k n (statement keyword argument place below) rest next =
    ends k (row_for k None keyword argument place) (cond (is_opened (word_of keyword)) (rows_within k n (suc n) below) []) rest (of_from (statement keyword argument place below) k None n) next

further_ends : (xs rest : List Row) (m : ℕ) → IsLastOf rest m → IsLastOf (xs ++ rest) m
further_ends xs rest m l =
    let at : (length xs + l.at) + 1 ≡ length xs + (l.at + 1) = omega arith in
    record {
      at = length xs + l.at;
      row = l.row;
      there = get_right xs rest l.at ∙ l.there;
      owner = l.owner;
      last = ap (λ j. is_outermost (slice_get (xs ++ rest) j)) at ∙ ap is_outermost (get_right xs rest (l.at + 1)) ∙ l.last;
    }

last_after : (ts : List Tree) (k n i : ℕ) (r : Row) → slice_get (rows_after k n ts) i ≡ Some r → IsLastOf (rows_after k n ts) r.«module»
unfolding rows_after
last_after [] k n i r e = absurd (cc)
last_after (t ∷ ts) k n i r e =
    let first : List Row = rows_from k None n t in
    let rest : List Row = rows_after (suc k) (n + length first) ts in
    elim (get_both first rest i r e) [
      | inl at ↦ subst (λ (m : ℕ). IsLastOf (first ++ rest) m) (sym (of_at k first i r (of_from t k None n) at)) (first_ends k n t rest (begins (suc k) (n + length first) ts))
      | inr at ↦ further_ends first rest r.«module» (last_after ts (suc k) (n + length first) at.0 r at.1)
    ]

-- the number of a row's module is below that of the modules
pub owner_below : (ts : List Tree) (k n i : ℕ) (r : Row) → slice_get (rows_after k n ts) i ≡ Some r → r.«module» < k + length ts
unfolding rows_after
owner_below [] k n i r e = absurd (cc)
owner_below (t ∷ ts) k n i r e =
    let first : List Row = rows_from k None n t in
    elim (get_both first (rows_after (suc k) (n + length first) ts) i r e) [
      | inl at ↦ let own = of_at k first i r (of_from t k None n) at in omega (arith, own)
      | inr at ↦ let below = owner_below ts (suc k) (n + length first) at.0 r at.1 in omega (arith, below)
    ]

-- ---- no module is too large

module _ (modules : List Tree) (laws : AreRows (rows_of modules)) where
  abbrev rows : List Row
  rows = rows_of modules

  is_itself : (n : ℕ) → (n == n) ≡ true
  is_itself n = grind arith

  told_by : (a b : Bool) (m : ℕ) (o : Option Row) (r : Row) → a ≡ true → b ≡ true → o ≡ Some r → cond (a && b) (large_by m o) None ≡ None → ⊥
  told_by true true m (Some s) r e f g h = absurd (cc)
  told_by true true m None r e f g h = absurd (cc)
  told_by true false m o r e f g h = absurd (cc)
  told_by false b m o r e f g h = absurd (cc)

  abbrev NoneTold : Type 0
  NoneTold = (at : ℕ) (r : Row) → slice_get rows at ≡ Some r → large_at rows at ≡ None

  large_told : (m : ℕ) → first_large rows (definitions rows) ≡ Some m → m < length (roots rows) → NoneTold → ⊥
  unfolding large_at is_last module_row
  large_told m large lt told =
      let root : ℕ = get_or (roots rows) m 0 in
      let is : slice_get (roots rows) m ≡ Some root = module_row-is rows (definitions rows) m lt in
      let r = row_there rows root (root-within rows m root laws is) in
      let owner : Some r.0.«module» ≡ Some m = sym (ap module_in r.1) ∙ laws.tops_are m lt in
      let l = last_after modules 0 0 root r.0 r.1 in
      let its : l.row.«module» ≡ m = l.owner ∙ same_Some r.0.«module» m owner in
      let found : is_at (first_large rows (definitions rows)) l.row.«module» ≡ true = ap (λ (o : Option ℕ). is_at o l.row.«module») large ∙ ap (λ (n : ℕ). is_at (Some m) n) its ∙ is_itself m in
      let there : row_at rows (top rows l.row.«module») ≡ Some r.0 = ap (λ (n : ℕ). row_at rows (top rows n)) its ∙ ap (row_at rows) is ∙ r.1 in
      let e : large_in rows l.at (Some l.row) ≡ None = sym (ap (large_in rows l.at) l.there) ∙ told l.at l.row l.there in
      told_by (is_outermost (slice_get rows (l.at + 1))) (is_at (first_large rows (definitions rows)) l.row.«module») l.row.«module» (row_at rows (top rows l.row.«module»)) r.0 l.last found there e

  large_among : (m : ℕ) → first_large rows (definitions rows) ≡ Some m → m < length (roots rows)
  unfolding first_large
  large_among m e = of_range (length (roots rows)) m (finds_some (is_large rows (definitions rows)) (range_with_len 0 (length (roots rows))) m e).0

  -- where it is told nowhere, no module is too large
  pub none_large : NoneTold → first_large rows (definitions rows) ≡ None
  none_large told = by (first_large rows (definitions rows)) refl
    where
      by : (o : Option ℕ) → first_large rows (definitions rows) ≡ o → o ≡ None
      by None e = refl
      by (Some m) e = absurd (large_told m e (large_among m e) told)

  -- each module is expanded, where none is too large and no row leads to itself
  pub all_grown : first_large rows (definitions rows) ≡ None → AreOrderly rows (definitions rows) → ((i : ℕ) → LeadsBy (holding rows (definitions rows)) i i → ⊥) → (m : ℕ) → m < length (roots rows) → is_grown rows (definitions rows) m ≡ true
  unfolding is_grown module_row
  all_grown small are acyclic m lt =
      let root : ℕ = get_or (roots rows) m 0 in
      let is : slice_get (roots rows) m ≡ Some root = module_row-is rows (definitions rows) m lt in
      let counted = count_known rows (definitions rows) are acyclic root (root-within rows m root laws is) in
      ap (λ (o : Option ℕ). comes_before m o && has_count rows (definitions rows) (slice_get (roots rows) m)) small ∙ ap (has_count rows (definitions rows)) is ∙ counted
