-- The places that rows stand below.
use Rattle.std.proofs.Common.{◌≡◌, ◌⊎◌, ℕ, zero, suc, ◌+◌, ◌-◌, ◌<◌, ◌≤◌, List, [], ◌∷◌, ◌++◌, map, take, length, Bool, true, false, if◌then◌else◌, refl, sym, ap, ◌∙◌, subst, inl, inr, append_assoc, arith}
use Rattle.std.proofs.lemmas.Bool.Decides.{nat_tests}
use Rattle.std.specs.Prelude.{nat_lt}
use Rattle.std.specs.List.{range_with_len}
use Rattle.std.specs.Ordering.{eq_by_cmp}
use Rattle.std.specs.FinMap.{keys}
use Rattle.nm_types.specs.Path.{PathStep, step_cmp}
use Rattle.nm_schema_tree.specs.Nodes.{SchemaTree}
use Rattle.nm_config.specs.Rows.{Rows}
use Rattle.nm_config.proofs.Contiguous.{one_step}
use Rattle.nm_validate_rules.proofs.Among.{Among, among_map, among_left, among_right, among_range}
use Rattle.nm_validate_places.specs.declared.areas.Grouped.{Grouped}
use Rattle.nm_validate_places.specs.declared.areas.NodeRow.{NodeRow}
use Rattle.nm_validate_places.specs.Groups.{IsGrouped}
use Rattle.nm_validate_places.specs.Listed.{Row, alone}
use Rattle.nm_validate_places.proofs.Leasts.{range_step}
use Rattle.nm_validate.specs.Places.{shared_places, places_from, places_after}

-- a place more is put behind others
pub put_more : (path : List PathStep) (i : ℕ) (before after all : List (List PathStep)) → i < length path → after ≡ before ++ take i path ∷ [] → before ++ places_from i path ≡ all
    → after ++ places_from (i + 1) path ≡ all
put_more path i before after all lt is h =
    ap (λ l. l ++ places_from (i + 1) path) is ∙ append_assoc before (take i path ∷ []) (places_from (i + 1) path)
    ∙ ap (λ l. before ++ map (λ k. take k path) l) (sym (range_step i (length path) lt)) ∙ h

-- ---- each place is there

-- two paths stand below one place
abbrev AreBelow : List PathStep → List PathStep → ℕ → Type 0
AreBelow before path n = (take n path ≡ take n before) × (n < length before)

shared : (before path : List PathStep) (n : ℕ) → n < shared_places before path → AreBelow before path n
shared [] path n lt = absurd (omega (arith, lt))
shared (s ∷ ss) [] n lt = absurd (omega (arith, lt))
shared (s ∷ ss) (r ∷ rs) zero lt = (refl, omega arith)
shared (s ∷ ss) (r ∷ rs) (suc n) lt = by (eq_by_cmp step_cmp s r) refl lt (λ less. shared ss rs n less)
  where
    by : (b : Bool) → eq_by_cmp step_cmp s r ≡ b → suc n < (if b then suc (shared_places ss rs) else 1) → (n < shared_places ss rs → AreBelow ss rs n) → AreBelow (s ∷ ss) (r ∷ rs) (suc n)
    by true e less rest =
        let h = rest (omega (arith, less)) in
        let same : s ≡ r = one_step s r e in
        let lower = h.1 in
        (λ i. sym same i ∷ h.0 i, omega (arith, lower))
    by false e less rest = absurd (omega (arith, less))

lower_by : (a b : ℕ) → nat_lt a b ≡ true → a < b
lower_by a b e = grind (arith, nat_tests)

not_lower : (a b : ℕ) → nat_lt a b ≡ false → b ≤ a
not_lower a b e = grind (arith, nat_tests)

among_from : (m n : ℕ) (path : List PathStep) → m ≤ n → n < length path → Among (places_from m path) (take n path)
among_from m n path le lt =
    let less : n - m < length path - m = omega (arith, le, lt) in
    let same : m + (n - m) ≡ n = omega (arith, le) in
    among_map (λ k. take k path) (range_with_len m (length path - m)) n (subst (λ (k : ℕ). Among (range_with_len m (length path - m)) k) same (among_range m (length path - m) (n - m) less))

head_placed : (before k : List PathStep) (ks : List (List PathStep)) (n : ℕ) → n < length k → Among (places_after before (k ∷ ks)) (take n k) ⊎ AreBelow before k n
head_placed before k ks n lt = by (nat_lt n (shared_places before k)) refl
  where
    by : (b : Bool) → nat_lt n (shared_places before k) ≡ b → Among (places_after before (k ∷ ks)) (take n k) ⊎ AreBelow before k n
    by true e = inr (shared before k n (lower_by n (shared_places before k) e))
    by false e = inl (among_left (places_from (shared_places before k) k) (places_after k ks) (take n k) (among_from (shared_places before k) n k (not_lower n (shared_places before k) e) lt))

abbrev Placed : List PathStep → List (List PathStep) → List PathStep → ℕ → Type 0
Placed before ks path n = Among (places_after before ks) (take n path) ⊎ AreBelow before path n

by_head : (before k : List PathStep) (ks : List (List PathStep)) (path : List PathStep) (n : ℕ) → take n path ≡ take n k → Among (places_after before (k ∷ ks)) (take n k) ⊎ AreBelow before k n → Placed before (k ∷ ks) path n
by_head before k ks path n same (inl a) = inl (subst (λ p. Among (places_after before (k ∷ ks)) p) (sym same) a)
by_head before k ks path n same (inr h) = inr (same ∙ h.0, h.1)

by_rest : (before k : List PathStep) (ks : List (List PathStep)) (path : List PathStep) (n : ℕ) → Placed k ks path n → Placed before (k ∷ ks) path n
by_rest before k ks path n (inl a) = inl (among_right (places_from (shared_places before k) k) (places_after k ks) (take n path) a)
by_rest before k ks path n (inr h) = by_head before k ks path n h.0 (head_placed before k ks n h.1)

placed : (before : List PathStep) (ks : List (List PathStep)) (path : List PathStep) → Among ks path → (n : ℕ) → n < length path → Placed before ks path n
placed before [] path a n lt = absurd a
placed before (k ∷ ks) path (inl same) n lt = by_head before k ks path n (ap (take n) same) (head_placed before k ks n (subst (λ (p : List PathStep). n < length p) same lt))
placed before (k ∷ ks) path (inr a) n lt = by_rest before k ks path n (placed k ks path a n lt)

first_placed : (ks : List (List PathStep)) (path : List PathStep) (n : ℕ) → Placed [] ks path n → Among (places_after [] ks) (take n path)
first_placed ks path n (inl a) = a
first_placed ks path n (inr h) = let lt = h.1 in absurd (omega (arith, lt))

-- each place that one of some paths stands below is among their places
pub all_placed : (ks : List (List PathStep)) (path : List PathStep) → Among ks path → (n : ℕ) → n < length path → Among (places_after [] ks) (take n path)
all_placed ks path a n lt = first_placed ks path n (placed [] ks path a n lt)

-- ---- rows as they are listed

paths_alone : (rs : List NodeRow) → map (λ r. r.path.now) rs ≡ map (λ e. e.0) (map alone rs)
paths_alone [] = refl
paths_alone (r ∷ rs) = ap (λ l. r.path.now ∷ l) (paths_alone rs)

-- the places of the rows as they are grouped are those of the paths that have rows
pub listed_places : (t : SchemaTree) (rows : Rows) (grouped : Grouped) (lent : List NodeRow) (places : List (List PathStep)) → lent ≡ grouped.rows.items → IsGrouped t rows grouped
    → places ≡ places_after [] (map (λ r. r.path.now) lent) → places ≡ places_after [] (keys rows)
listed_places t rows grouped lent places same h made =
    made ∙ ap (λ l. places_after [] (map (λ (r : NodeRow). r.path.now) l)) same ∙ ap (places_after []) (paths_alone grouped.rows.items ∙ ap (map (λ (e : Row). e.0)) h.rows_are)
