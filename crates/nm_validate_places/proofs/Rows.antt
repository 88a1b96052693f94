-- The first row that a test refuses, as rows are listed.
use Rattle.std.proofs.Common.{◌≡◌, ℕ, zero, suc, List, [], ◌∷◌, map, take, drop, get_or, length, ◌≤◌, Bool, true, false, cond, not, ◌&&◌, Option, Some, is_some, option_map, refl, sym, ap, ◌∙◌, subst, arith}
use Rattle.std.specs.List.{find, AllByRecursion}
use lib.Dec.{T}
use Rattle.std.specs.FinMap.{get, contains_key, get-entries, entries, entries_sorted}
use Rattle.std.specs.FinMap.Entries.{find as found, is_sorted, below_all}
use Rattle.std.specs.Ordering.{eq_by_cmp, is_lt, is_eq, ordering_reverse}
use Rattle.std.specs.declared.cmp.Ordering.{Ordering}
use Rattle.std.specs.declared.cmp.Ordering.TheVariants.{Less, Equal, Greater}
use Rattle.std.proofs.lemmas.Cmp.{tied_itself}
use Rattle.nm_types.specs.PathLaws.{paths_total, same_path_decides}
use Rattle.nm_types.specs.declared.value.Value.{Value}
use Rattle.nm_types.specs.Path.{PathStep, path_cmp}
use Rattle.nm_schema_tree.specs.Nodes.{SchemaTree}
use Rattle.nm_path.specs.Spelling.{node_of}
use Rattle.nm_config.specs.Rows.{Rows}
use Rattle.nm_validate_rules.specs.declared.rule.Rule.TheVariants.{ValueType, Key}
use Rattle.nm_validate_rules.specs.Violated.{fits_at, fits_row, has_keys, last_chosen, violated}
use Rattle.nm_validate_rules.specs.Violation.{least_at}
use Rattle.nm_validate_places.specs.declared.areas.Grouped.{Grouped}
use Rattle.nm_validate_places.specs.declared.areas.NodeRow.{NodeRow}
use Rattle.nm_validate_places.specs.Groups.{IsGrouped}
use Rattle.nm_validate_places.specs.Listed.{Row, path_in, alone, HaveNodes, AreRows, first_where, first_bad_value, first_bad_key}
use Rattle.nm_validate_places.proofs.Firsts.{first_of, second_of, least_key}

-- ---- a map has its entries

apart : (r : Ordering) → T (is_lt r) → is_eq (ordering_reverse r) ≡ false
apart Less h = refl
apart Equal h = absurd h
apart Greater h = absurd h

later : (e : Row) (es fs : List Row) → T (below_all path_cmp e.0 fs) → AllByRecursion (λ f. found path_cmp f.0 es ≡ Some f.1) fs → AllByRecursion (λ f. found path_cmp f.0 (e ∷ es) ≡ Some f.1) fs
later e es [] b h = tt
later e es (f ∷ fs) b h = (
  ap (λ x. cond x (Some e.1) (found path_cmp f.0 es)) (ap is_eq (paths_total.antisymm f.0 e.0) ∙ apart (path_cmp e.0 f.0) (first_of _ _ b)) ∙ h.0,
  later e es fs (second_of _ _ b) h.1,
)

all_found : (es : List Row) → T (is_sorted path_cmp es) → AllByRecursion (λ f. found path_cmp f.0 es ≡ Some f.1) es
all_found [] h = tt
all_found (e ∷ es) h = (ap (λ x. cond x (Some e.1) (found path_cmp e.0 es)) (ap is_eq (tied_itself paths_total e.0)), later e es es (first_of _ _ h) (all_found es (second_of _ _ h)))

-- a map has these rows
abbrev pub Have : Rows → List Row → Type 0
Have rows es = AllByRecursion (λ e. get rows e.0 ≡ Some e.1) es

have_all : (rows : Rows) (es : List Row) → AllByRecursion (λ f. found path_cmp f.0 (entries rows) ≡ Some f.1) es → Have rows es
have_all rows [] h = tt
have_all rows (e ∷ es) h = (get-entries rows e.0 ∙ h.0, have_all rows es h.1)

pub all_there : (rows : Rows) → Have rows (entries rows)
all_there rows = have_all rows (entries rows) (all_found (entries rows) (entries_sorted rows))

-- rows that are listed are there
are_rows : (rows : Rows) (rs : List NodeRow) → Have rows (map alone rs) → AreRows rows rs
are_rows rows [] h = tt
are_rows rows (r ∷ rs) h = (h.0, are_rows rows rs h.1)

pub lent_rows : (t : SchemaTree) (rows : Rows) (grouped : Grouped) (lent : List NodeRow) → IsGrouped t rows grouped → lent ≡ grouped.rows.items → AreRows rows lent
lent_rows t rows grouped lent h same = are_rows rows lent (subst (λ es. Have rows es) (sym (ap (map alone) same ∙ h.rows_are)) (all_there rows))

pub first_there : (m : Rows) (rs : List NodeRow) (r : NodeRow) → 1 ≤ length rs → r ≡ get_or rs 0 r → AreRows m rs → get m r.path.now ≡ Some r.value.now
first_there m [] r long is h = absurd (omega (arith, long))
first_there m (s ∷ rs) r long is h = ap (λ (q : NodeRow). get m q.path.now) is ∙ h.0 ∙ ap (λ (q : NodeRow). Some q.value.now) (sym is)

-- the first of some rows is at this path
pub first_at : (m : Rows) (rs : List NodeRow) (r : NodeRow) (path : List PathStep) → 1 ≤ length rs → r ≡ get_or rs 0 r → eq_by_cmp path_cmp r.path.now path ≡ true → AreRows m rs → contains_key m path ≡ true
first_at m rs r path long is same h =
    ap (contains_key m) (sym ((same_path_decides r.path.now path (eq_by_cmp path_cmp r.path.now path) refl).0 same)) ∙ ap is_some (first_there m rs r long is h)

pub rows_taken : (m : Rows) (rs : List NodeRow) (n : ℕ) → AreRows m rs → AreRows m (take n rs)
rows_taken m [] zero h = tt
rows_taken m [] (suc n) h = tt
rows_taken m (r ∷ rs) zero h = tt
rows_taken m (r ∷ rs) (suc n) h = (h.0, rows_taken m rs n h.1)

pub rows_dropped : (m : Rows) (rs : List NodeRow) (n : ℕ) → AreRows m rs → AreRows m (drop n rs)
rows_dropped m [] zero h = tt
rows_dropped m [] (suc n) h = tt
rows_dropped m (r ∷ rs) zero h = h
rows_dropped m (r ∷ rs) (suc n) h = rows_dropped m rs n h.1

-- ---- the first row that a test refuses

-- a test of paths that answers at each row as a test of rows does finds the same
pub same_first : (test : List PathStep → Bool) (row_test : Row → Bool) (es : List Row) → AllByRecursion (λ e. test e.0 ≡ row_test e) es → find test (map (λ e. e.0) es) ≡ path_in (find row_test es)
same_first test row_test [] h = refl
same_first test row_test (e ∷ es) h =
    let rest = same_first test row_test es h.1 in
    ap (λ b. cond b (Some e.0) (find test (map (λ (r : Row). r.0) es))) h.0
    ∙ elim (row_test e) as (λ b. cond b (Some e.0) (find test (map (λ (r : Row). r.0) es)) ≡ path_in (cond b (Some e) (find row_test es))) [
      | true ↦ refl
      | false ↦ rest
    ]

module _ (t : SchemaTree) (rows : Rows) where
  there : (o : Option Value) (v : Value) (b : Bool) → o ≡ Some v → (is_some o && b) ≡ b
  there o v b e = ap (λ x. is_some x && b) e

  values_by : (es : List Row) → Have rows es → AllByRecursion (λ e. violated t rows ValueType e.0 ≡ not (fits_row t e.0 (Some e.1))) es
  values_by [] h = tt
  values_by (e ∷ es) h = (there (get rows e.0) e.1 (not (fits_row t e.0 (get rows e.0))) h.0 ∙ ap (λ o. not (fits_row t e.0 o)) h.0, values_by es h.1)

  keys_by : (es : List Row) → Have rows es → AllByRecursion (λ e. violated t rows Key e.0 ≡ not (has_keys t.nodes (node_of t e.0) e.0)) es
  keys_by [] h = tt
  keys_by (e ∷ es) h = (there (get rows e.0) e.1 (not (has_keys t.nodes (node_of t e.0) e.0)) h.0, keys_by es h.1)

  -- a test finds among rows with their nodes what it finds among rows
  where_alone : (test : Option ℕ → List PathStep → Value → Bool) (rs : List NodeRow) → HaveNodes t rs → first_where test rs ≡ path_in (find (λ e. test (node_of t e.0) e.0 e.1) (map alone rs))
  where_alone test [] h = refl
  where_alone test (r ∷ rs) h =
      let others = find (λ (s : NodeRow). test s.node s.path.now s.value.now) rs in
      let rest = find (λ (e : Row). test (node_of t e.0) e.0 e.1) (map alone rs) in
      ap (λ o. option_map (λ (s : NodeRow). s.path.now) (cond (test o r.path.now r.value.now) (Some r) others)) h.0
      ∙ elim (test (node_of t r.path.now) r.path.now r.value.now) as (λ b. option_map (λ (s : NodeRow). s.path.now) (cond b (Some r) others) ≡ path_in (cond b (Some (alone r)) rest)) [
        | true ↦ refl
        | false ↦ where_alone test rs h.1
      ]

  pub where_is : (test : Option ℕ → List PathStep → Value → Bool) (grouped : Grouped) (lent : List NodeRow) → lent ≡ grouped.rows.items → IsGrouped t rows grouped
      → first_where test lent ≡ path_in (find (λ e. test (node_of t e.0) e.0 e.1) (entries rows))
  where_is test grouped lent same h =
      ap (first_where test) same ∙ where_alone test grouped.rows.items h.nodes_are ∙ ap (λ es. path_in (find (λ (e : Row). test (node_of t e.0) e.0 e.1) es)) h.rows_are

  module _ (grouped : Grouped) (lent : List NodeRow) (same : lent ≡ grouped.rows.items) (h : IsGrouped t rows grouped) where
    pub bad_values : first_bad_value t.nodes lent ≡ least_at t rows ValueType
    unfolding least_at
    bad_values =
        where_is (λ node path value. not (fits_at t.nodes node (last_chosen path) value)) grouped lent same h
        ∙ sym (least_key (violated t rows ValueType) rows ∙ same_first (violated t rows ValueType) (λ e. not (fits_row t e.0 (Some e.1))) (entries rows) (values_by (entries rows) (all_there rows)))

    pub bad_keys : first_bad_key t.nodes lent ≡ least_at t rows Key
    unfolding least_at
    bad_keys =
        where_is (λ node path value. not (has_keys t.nodes node path)) grouped lent same h
        ∙ sym (least_key (violated t rows Key) rows ∙ same_first (violated t rows Key) (λ e. not (has_keys t.nodes (node_of t e.0) e.0)) (entries rows) (keys_by (entries rows) (all_there rows)))
