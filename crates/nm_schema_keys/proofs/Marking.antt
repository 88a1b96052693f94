-- Marks of the leafs that are keys.
use Rattle.std.proofs.Common.{◌≡◌, ◌≢◌, ◌∙◌, ◌<◌, ◌≤◌, ◌+◌, ◌⊎◌, ◌↔◌, inl, inr, ℕ, zero, suc, List, [], ◌∷◌, ◌++◌, length, get_or, set, take, slice_index_or, Contains, Bool, true, false, ◌||◌, ◌==◌, Option, Some, None, refl, sym, ap, subst, arith}
use Rattle.std.proofs.lemmas.Bool.{eqb-true, cases_eq, cases_lt}
use Rattle.std.proofs.lemmas.Bool.Decides.{nat_tests}
use Rattle.std.proofs.lemmas.Grind.{common_steps}
use Rattle.std.proofs.lemmas.List.{take_more, get_or-set_same, get_or-set_other}
use Rattle.std.proofs.lemmas.Option.{same_Some}
use Rattle.nm_schema_statements.specs.declared.word.Word.TheVariants as word
use Rattle.nm_schema_statements.specs.declared.row.Row.{Row}
use Rattle.nm_schema_statements.specs.Rows.{AreRows, children, first_with, first_below}
use Rattle.nm_schema_uses.specs.Config.{Marks}
use Rattle.nm_schema_keys.specs.ConfigUse.{ConfigUse}
use Rattle.nm_schema_keys.specs.Keys.{has_row, has_known, keys_at, keys_of, IsKey}
use Rattle.nm_schema_keys.proofs.Having.{has_row-append}

-- ---- rows in lists

same_is : (i : ℕ) → (i == i) ≡ true
same_is i = grind (arith, nat_tests)

other_is : (i n : ℕ) → i ≢ n → (i == n) ≡ false
other_is i n ne = grind (arith, common_steps)

later : (n : ℕ) (ns : List ℕ) (i : ℕ) → Contains ns i → Contains (n ∷ ns) i
later n ns i (k, lt, is) = (suc k, omega (arith, lt), is)

has_contains : (ns : List ℕ) (i : ℕ) → has_row ns i ≡ true → Contains ns i
has_contains [] i e = cc
has_contains (n ∷ ns) i e =
    (elim (i == n) as (λ b. i == n ≡ b → (b || has_row ns i) ≡ true → Contains (n ∷ ns) i) [
      | true ↦ λ same h. (0, omega arith, sym (eqb-true i n same))
      | false ↦ λ same h. later n ns i (has_contains ns i h)
    ]) refl e

or_true : (b : Bool) → (b || true) ≡ true
or_true true = refl
or_true false = refl

contains_has : (ns : List ℕ) (i k : ℕ) → k < length ns → slice_index_or ns k i ≡ i → has_row ns i ≡ true
contains_has [] i k lt is = absurd (omega (arith, lt))
contains_has (n ∷ ns) i zero lt is = ap (λ m. i == m || has_row ns i) is ∙ ap (λ b. b || has_row ns i) (same_is i)
contains_has (n ∷ ns) i (suc k) lt is = ap (λ b. i == n || b) (contains_has ns i k (omega (arith, lt)) is) ∙ or_true (i == n)

-- ---- marks of some rows

or_last : (a b : Bool) → true ≡ ((a || (true || false)) || b)
or_last true b = refl
or_last false b = refl

or_skip : (a b : Bool) → (a || b) ≡ ((a || (false || false)) || b)
or_skip true b = refl
or_skip false b = refl

-- a row more is marked
marked_at : (marks start : List Bool) (rows : List ℕ) (k i : ℕ) → k < length rows → get_or rows k 0 < length marks
    → slice_index_or marks i false ≡ (has_row (take k rows) i || slice_index_or start i false)
    → (i ≡ get_or rows k 0) ⊎ (i ≢ get_or rows k 0)
    → slice_index_or (set marks (get_or rows k 0) true) i false ≡ (has_row (take k rows ++ get_or rows k 0 ∷ []) i || slice_index_or start i false)
marked_at marks start rows k i lt within before (inl same) =
    let here : slice_index_or (set marks (get_or rows k 0) true) i false ≡ true = rw same (get_or-set_same marks (get_or rows k 0) true false within) in
    let is : (i == get_or rows k 0) ≡ true = rw same (same_is (get_or rows k 0)) in
    here
    ∙ or_last (has_row (take k rows) i) (slice_index_or start i false)
    ∙ ap (λ b. (has_row (take k rows) i || (b || false)) || slice_index_or start i false) (sym is)
    ∙ ap (λ b. b || slice_index_or start i false) (sym (has_row-append (take k rows) (get_or rows k 0 ∷ []) i))
marked_at marks start rows k i lt within before (inr other) =
    get_or-set_other marks (get_or rows k 0) i true false other
    ∙ before
    ∙ or_skip (has_row (take k rows) i) (slice_index_or start i false)
    ∙ ap (λ b. (has_row (take k rows) i || (b || false)) || slice_index_or start i false) (sym (other_is i (get_or rows k 0) other))
    ∙ ap (λ b. b || slice_index_or start i false) (sym (has_row-append (take k rows) (get_or rows k 0 ∷ []) i))

pub marked_more : (marks start : List Bool) (rows : List ℕ) (k i : ℕ) → k < length rows → get_or rows k 0 < length marks
    → slice_index_or marks i false ≡ (has_row (take k rows) i || slice_index_or start i false)
    → slice_index_or (set marks (get_or rows k 0) true) i false ≡ (has_row (take (k + 1) rows) i || slice_index_or start i false)
marked_more marks start rows k i lt within before =
    marked_at marks start rows k i lt within before (cases_eq i (get_or rows k 0))
    ∙ ap (λ (l : List ℕ). has_row l i || slice_index_or start i false) (sym (take_more rows k 0 lt))

-- ---- marks of keys

-- row i is a key leaf of a list before row n
pub record IsKeyBefore (rows : List Row) (groupings : List (Option ℕ)) (standing : ConfigUse) (n i : ℕ) : Type 0 where
  pub list : ℕ
  pub keys : List ℕ
  pub before : list < n
  pub known : keys_of rows groupings standing list ≡ Some keys
  pub among : Contains keys i

module _ (rows : List Row) (groupings : List (Option ℕ)) (standing : ConfigUse) where
  -- the marks of the lists before row n
  abbrev pub AreMarked : ℕ → List Bool → Type 0
  AreMarked n marks = (i : ℕ) → (slice_index_or marks i false ≡ true) ↔ IsKeyBefore rows groupings standing n i

  wider : (n i : ℕ) → IsKeyBefore rows groupings standing n i → IsKeyBefore rows groupings standing (n + 1) i
  wider n i h = record { list = h.list; keys = h.keys; before = omega (arith, h.before); known = h.known; among = h.among }

  narrower : (n i : ℕ) (h : IsKeyBefore rows groupings standing (n + 1) i) → h.list < n → IsKeyBefore rows groupings standing n i
  narrower n i h lt = record { list = h.list; keys = h.keys; before = lt; known = h.known; among = h.among }

  -- a list without keys marks nothing
  marked_none : (n : ℕ) (marks : List Bool) → keys_of rows groupings standing n ≡ None → AreMarked n marks → AreMarked (n + 1) marks
  marked_none n marks none are = λ i. (λ e. wider n i ((are i).0 e), λ h. (are i).1 (earlier i h (cases_lt h.list n)))
    where
      earlier : (i : ℕ) (h : IsKeyBefore rows groupings standing (n + 1) i) → (h.list < n) ⊎ (n ≤ h.list) → IsKeyBefore rows groupings standing n i
      earlier i h (inl lt) = narrower n i h lt
      earlier i h (inr le) =
          let upper = h.before in
          let here : h.list ≡ n = omega arith in
          let known : Some h.keys ≡ None = sym h.known ∙ ap (λ l. keys_of rows groupings standing l) here ∙ none in
          cc

  either_true : (a b : Bool) → (a || b) ≡ true → (a ≡ true) ⊎ (b ≡ true)
  either_true true b e = inl refl
  either_true false b e = inr e

  from_either : (a b : Bool) → (a ≡ true) ⊎ (b ≡ true) → (a || b) ≡ true
  from_either true b h = refl
  from_either false b (inl e) = cc
  from_either false b (inr e) = e

  -- a list marks its keys
  marked_some : (n : ℕ) (keys : List ℕ) (old new : List Bool) → keys_of rows groupings standing n ≡ Some keys
      → ((i : ℕ) → slice_index_or new i false ≡ (has_row keys i || slice_index_or old i false)) → AreMarked n old → AreMarked (n + 1) new
  marked_some n keys old new some put are = λ i. (
    λ e. forth i (either_true (has_row keys i) (slice_index_or old i false) (sym (put i) ∙ e)),
    λ h. put i ∙ from_either (has_row keys i) (slice_index_or old i false) (back i h (cases_lt h.list n)),
  )
    where
      forth : (i : ℕ) → (has_row keys i ≡ true) ⊎ (slice_index_or old i false ≡ true) → IsKeyBefore rows groupings standing (n + 1) i
      forth i (inl e) = record { list = n; keys = keys; before = omega arith; known = some; among = has_contains keys i e }
      forth i (inr e) = wider n i ((are i).0 e)

      back : (i : ℕ) (h : IsKeyBefore rows groupings standing (n + 1) i) → (h.list < n) ⊎ (n ≤ h.list) → (has_row keys i ≡ true) ⊎ (slice_index_or old i false ≡ true)
      back i h (inl lt) = inr ((are i).1 (narrower n i h lt))
      back i h (inr le) =
          let upper = h.before in
          let here : h.list ≡ n = omega arith in
          let same : h.keys ≡ keys = same_Some h.keys keys (sym h.known ∙ ap (λ l. keys_of rows groupings standing l) here ∙ some) in
          let among : Contains keys i = subst (λ (l : List ℕ). Contains l i) same h.among in
          inl (contains_has keys i among.0 among.1 among.2)

  -- a list marks its keys, if they are known
  pub marked_next : (n : ℕ) (old new : List Bool) → ((i : ℕ) → slice_index_or new i false ≡ (has_known (keys_of rows groupings standing n) i || slice_index_or old i false)) → AreMarked n old → AreMarked (n + 1) new
  marked_next n old new put are =
      (elim (keys_of rows groupings standing n) as (λ o. keys_of rows groupings standing n ≡ o → ((i : ℕ) → slice_index_or new i false ≡ (has_known o i || slice_index_or old i false)) → AreMarked (n + 1) new) [
        | None ↦ λ e h. marked_none n new e (λ i. (λ is. (are i).0 (sym (h i) ∙ is), λ key. h i ∙ (are i).1 key))
        | Some keys ↦ λ e h. marked_some n keys old new e h are
      ]) refl put

  below_within : (l : ℕ) (is : List ℕ) (k : ℕ) → AreRows rows → children rows l ≡ is → first_with rows word.Key is ≡ Some k → l < length rows
  below_within l [] k are e h = cc
  below_within l (i ∷ is) k are e h =
      let some : 0 < length (children rows l) = rw e (omega arith) in
      let both = are.within l 0 some in
      omega (arith, both.0, both.1)

  list_within : (l : ℕ) (o : Option ℕ) (keys : List ℕ) → AreRows rows → first_below rows l word.Key ≡ o → keys_at rows groupings standing o ≡ Some keys → l < length rows
  list_within l None keys are e h = cc
  list_within l (Some k) keys are e h = below_within l (children rows l) k are refl e

  known_within : (l : ℕ) (keys : List ℕ) → AreRows rows → keys_of rows groupings standing l ≡ Some keys → l < length rows
  unfolding keys_of
  known_within l keys are h = list_within l (first_below rows l word.Key) keys are refl h

  -- all lists have marked their keys
  pub marked_all : (n : ℕ) (marks : List Bool) → AreRows rows → n ≡ length rows → AreMarked n marks → Marks (IsKey rows groupings standing) marks
  marked_all n marks laws all are = λ i. (
    λ e. let h = (are i).0 e in record { list = h.list; keys = h.keys; known = h.known; among = h.among },
    λ h. (are i).1 (record { list = h.list; keys = h.keys; before = subst (λ m. h.list < m) (sym all) (known_within h.list h.keys laws h.known); known = h.known; among = h.among }),
  )
