-- The rows at or below a node among the entries of a tree.
use Rattle.std.specs.Prelude.{◌≡◌, Bool, true, false, cond, not, ◌&&◌, ◌||◌, List, [], ◌∷◌, Option, Some, None, is_some, filter, slice_get, refl}
use Rattle.std.proofs.Common.{ℕ, ◌+◌, ◌<◌, length, get_or, drop, sym, ◌∙◌, ap, subst}
use Rattle.std.specs.declared.cmp.Ordering.{Ordering}
use Rattle.std.specs.declared.cmp.Ordering.TheVariants.{Less, Equal, Greater}
use Rattle.std.specs.declared.ops.Bound.TheVariants.{Included, Excluded, Unbounded}
use Rattle.std.specs.Ordering.{eq_by_cmp, is_gt, is_le, is_lt, is_eq}
use Rattle.std.specs.List.{AllByRecursion, list_any}
use Rattle.std.specs.List.Sorted.{IsStrictlySortedBy}
use Rattle.std.specs.Map.{keys_of, lookup}
use Rattle.std.specs.BTreeMap.{is_at}
use Rattle.std.specs.BTreeMap.Range.{entries_between, range_contains}
use Rattle.std.specs.FinMap.{get, remove, entries, keys, retain_keys, from_entries, same_map, get-remove, get-retain_keys, get-from_entries}
use Rattle.std.specs.FinMap.Entries.{is_some-find}
use Rattle.std.proofs.lemmas.Map.Views.{any-filter_same}
use Rattle.std.proofs.lemmas.List.{drop_more}
use Rattle.std.proofs.lemmas.List.Elements.{filter_agree}
use Rattle.std.proofs.lemmas.List.Kept.{IsStrictlySortedBy-filter}
use Rattle.nm_types.specs.declared.value.Value.{Value}
use Rattle.nm_types.specs.Path.{PathStep, path_cmp}
use Rattle.nm_types.specs.PathLaws.{paths_total, path_cmp-IsAntisymmetric}
use Rattle.nm_config.specs.Rows.{Rows}
use Rattle.nm_config.specs.Under.{is_under, row_is_under, rows_under, without_rows}
use Rattle.nm_config.proofs.Contiguous.{under-later, under-between}
use Rattle.nm_config.proofs.Maps.{from_entries-filter, entries-from_entries, one_removed}

-- entries of a tree of rows
abbrev Row : Type 0
Row = List PathStep × Value

le_from_gt : (o : Ordering) → is_gt o ≡ false → (is_le o && not false) ≡ true
le_from_gt Less h = refl
le_from_gt Equal h = refl
le_from_gt Greater h = cc

gt_from_le : (o : Ordering) → (is_le o && not false) ≡ true → is_gt o ≡ false
gt_from_le Less h = refl
gt_from_le Equal h = refl
gt_from_le Greater h = cc

not_later : (o : Ordering) → o ≡ Less → is_gt o ≡ false
not_later o e = ap is_gt e

equal : (r : Ordering) → is_eq r ≡ true → r ≡ Equal
equal Less h = cc
equal Equal h = refl
equal Greater h = cc

-- a filter of a filter that keeps what it keeps
filter_in_filter : {X : Type 0} (p q : X → Bool) → ((x : X) → p x ≡ true → q x ≡ true) → (xs : List X) → filter p (filter q xs) ≡ filter p xs
filter_in_filter p q keeps [] = refl
filter_in_filter {X} p q keeps (x ∷ xs) = by (p x) (q x) refl refl (filter_in_filter p q keeps xs)
  where
    by : (a b : Bool) → p x ≡ a → q x ≡ b → filter p (filter q xs) ≡ filter p xs → filter p (cond (q x) (x ∷ filter q xs) (filter q xs)) ≡ cond (p x) (x ∷ filter p xs) (filter p xs)
    by true true e f h = rw (f, e) (ap (λ (l : List X). x ∷ l) h)
    by true false e f h = let g = keeps x e in cc
    by false true e f h = rw (f, e) h
    by false false e f h = rw (f, e) h

-- the keys of what a test of keys keeps
keys_of-filter : (p : List PathStep → Bool) (es : List Row) → keys_of (filter (λ e. p e.0) es) ≡ filter p (keys_of es)
keys_of-filter p [] = refl
keys_of-filter p (e ∷ es) =
    elim (p e.0) as (λ b. keys_of (cond b (e ∷ filter (λ r. p r.0) es) (filter (λ r. p r.0) es)) ≡ cond b (e.0 ∷ filter p (keys_of es)) (filter p (keys_of es))) [
      | true ↦ ap (λ (l : List (List PathStep)). e.0 ∷ l) (keys_of-filter p es)
      | false ↦ keys_of-filter p es
    ]

pub sorted-filter : (p : List PathStep → Bool) (es : List Row) → IsStrictlySortedBy path_cmp (keys_of es) → IsStrictlySortedBy path_cmp (keys_of (filter (λ e. p e.0) es))
sorted-filter p es h = subst (IsStrictlySortedBy path_cmp) (sym (keys_of-filter p es)) (IsStrictlySortedBy-filter path_cmp p (keys_of es) h)

-- the entries at or after a node
abbrev pub at_or_after : List PathStep → List Row → List Row
at_or_after node es = entries_between path_cmp (Included node) Unbounded es

-- what is at or below a node is at or after it
pub under_in_range : (node : List PathStep) (es : List Row) → rows_under node (at_or_after node es) ≡ rows_under node es
under_in_range node es = filter_in_filter (row_is_under node) (λ e. range_contains path_cmp (Included node) Unbounded e.0) (λ e h. le_from_gt _ (under-later node e.0 h)) es

-- entries in order that stand at or after a node
abbrev pub IsTail : List PathStep → List Row → Type 0
IsTail node [] = Unit {0}
IsTail node (e ∷ es) = (is_gt (path_cmp node e.0) ≡ false) × AllByRecursion (λ y. path_cmp e.0 y ≡ Less) (keys_of es) × IsTail node es

tail_of : (node : List PathStep) (es : List Row) → IsStrictlySortedBy path_cmp (keys_of es) → ((e : Row) → Unit {0}) → AllByRecursion (λ k. is_gt (path_cmp node k) ≡ false) (keys_of es) → IsTail node es
unfolding IsStrictlySortedBy
tail_of node [] s u a = tt
tail_of node (e ∷ es) s u a = (a.0, s.0, tail_of node es s.1 u a.1)

all_after : (node : List PathStep) (es : List Row) → AllByRecursion (λ k. is_gt (path_cmp node k) ≡ false) (keys_of (at_or_after node es))
all_after node [] = tt
all_after node (e ∷ es) = by (is_le (path_cmp node e.0) && not false) refl (all_after node es)
  where
    by : (b : Bool) → (is_le (path_cmp node e.0) && not false) ≡ b → AllByRecursion (λ k. is_gt (path_cmp node k) ≡ false) (keys_of (at_or_after node es))
        → AllByRecursion (λ k. is_gt (path_cmp node k) ≡ false) (keys_of (cond b (e ∷ at_or_after node es) (at_or_after node es)))
    by true h rest = (gt_from_le _ h, rest)
    by false h rest = rest

pub tail-range : (node : List PathStep) (es : List Row) → IsStrictlySortedBy path_cmp (keys_of es) → IsTail node (at_or_after node es)
tail-range node es s = tail_of node (at_or_after node es) (sorted-filter (range_contains path_cmp (Included node) Unbounded) es s) (λ e. tt) (all_after node es)

all_out : (node k : List PathStep) (es : List Row) → is_gt (path_cmp node k) ≡ false → is_under node k ≡ false → AllByRecursion (λ y. path_cmp k y ≡ Less) (keys_of es) → rows_under node es ≡ []
all_out node k [] a out less = refl
all_out node k (e ∷ es) a out less = by (is_under node e.0) refl (all_out node k es a out less.1)
  where
    by : (b : Bool) → is_under node e.0 ≡ b → rows_under node es ≡ [] → cond b (e ∷ rows_under node es) (rows_under node es) ≡ []
    by true h rest = let g = under-between node k e.0 h a (not_later _ less.0) in cc
    by false h rest = rest

-- where the first is not below the node, none is
pub none_left : (node : List PathStep) (e : Row) (es : List Row) → IsTail node (e ∷ es) → is_under node e.0 ≡ false → rows_under node (e ∷ es) ≡ []
none_left node e es t out = ap (λ b. cond b (e ∷ rows_under node es) (rows_under node es)) out ∙ all_out node e.0 es t.0 out t.1

pub one_left : (node : List PathStep) (e : Row) (es : List Row) → is_under node e.0 ≡ true → rows_under node (e ∷ es) ≡ e ∷ rows_under node es
one_left node e es h = ap (λ b. cond b (e ∷ rows_under node es) (rows_under node es)) h

-- there is a row
abbrev some_row : List Row → Bool
some_row [] = false
some_row (e ∷ es) = true

any_by_rows : (node : List PathStep) (es : List Row) → list_any (is_under node) (keys_of es) ≡ some_row (rows_under node es)
any_by_rows node [] = refl
any_by_rows node (e ∷ es) =
    elim (is_under node e.0) as (λ b. (b || list_any (is_under node) (keys_of es)) ≡ some_row (cond b (e ∷ rows_under node es) (rows_under node es))) [
      | true ↦ refl
      | false ↦ any_by_rows node es
    ]

pub none_under : (node : List PathStep) (es : List Row) → at_or_after node es ≡ [] → list_any (is_under node) (keys_of es) ≡ false
none_under node es h = any_by_rows node es ∙ ap some_row (sym (under_in_range node es) ∙ ap (rows_under node) h)

pub first_under : (node : List PathStep) (es : List Row) (e : Row) (rest : List Row) → IsStrictlySortedBy path_cmp (keys_of es) → at_or_after node es ≡ e ∷ rest → list_any (is_under node) (keys_of es) ≡ is_under node e.0
first_under node es e rest s h =
    any_by_rows node es ∙ ap some_row (sym (under_in_range node es) ∙ ap (rows_under node) h) ∙ by (is_under node e.0) refl
  where
    by : (b : Bool) → is_under node e.0 ≡ b → some_row (rows_under node (e ∷ rest)) ≡ is_under node e.0
    by true g = ap some_row (one_left node e rest g) ∙ sym g
    by false g = ap some_row (none_left node e rest (subst (IsTail node) h (tail-range node es s)) g) ∙ sym g

-- what a map has without some rows
or_gone : (a b : Bool) (o : Option Value) → cond b None (cond a None o) ≡ cond (a || b) None o
or_gone true true o = refl
or_gone true false o = refl
or_gone false b o = refl

get-without_rows : (rs : List Row) (m : Rows) (q : List PathStep) → get (without_rows m rs) q ≡ cond (list_any (eq_by_cmp path_cmp q) (keys_of rs)) None (get m q)
get-without_rows [] m q = refl
get-without_rows (r ∷ rs) m q =
    get-without_rows rs (remove m r.0) q
    ∙ ap (cond (list_any (eq_by_cmp path_cmp q) (keys_of rs)) None) (get-remove paths_total m r.0 q)
    ∙ or_gone (eq_by_cmp path_cmp q r.0) (list_any (eq_by_cmp path_cmp q) (keys_of rs)) (get m q)

none_there : (a : Bool) (o : Option Value) → is_some o ≡ a → cond a None o ≡ None
none_there true o h = refl
none_there false None h = refl
none_there false (Some v) h = cc

gone_alike : (u a : Bool) (o : Option Value) → is_some o ≡ a → cond (u && a) None o ≡ cond (not u) o None
gone_alike true a o h = none_there a o h
gone_alike false a o h = refl

-- a map without its rows at or below a node
pub without_under_rows : (node : List PathStep) (es : List Row) → without_rows (from_entries es) (rows_under node es) ≡ retain_keys (from_entries es) (λ path. not (is_under node path))
without_under_rows node es = same_map paths_total path_cmp-IsAntisymmetric _ _ (λ q.
    let alike : (k : List PathStep) → eq_by_cmp path_cmp q k ≡ true → is_under node k ≡ is_under node q = λ k t. ap (is_under node) (sym (path_cmp-IsAntisymmetric q k (equal (path_cmp q k) t))) in
    let there : is_some (get (from_entries {R = path_cmp} es) q) ≡ list_any (eq_by_cmp path_cmp q) (keys_of es) = ap is_some (get-from_entries paths_total es q) ∙ is_some-find path_cmp q es in
    get-without_rows (rows_under node es) (from_entries es) q
    ∙ ap (λ b. cond b None (get (from_entries {R = path_cmp} es) q))
    (ap (list_any (eq_by_cmp path_cmp q)) (keys_of-filter (is_under node) es) ∙ any-filter_same (eq_by_cmp path_cmp q) (is_under node) (is_under node q) alike (keys_of es))
    ∙ gone_alike (is_under node q) (list_any (eq_by_cmp path_cmp q) (keys_of es)) (get (from_entries es) q) there
    ∙ sym (get-retain_keys (from_entries es) (λ path. not (is_under node path)) q (λ x t. ap (λ path. not (is_under node path)) (sym (path_cmp-IsAntisymmetric q x t)))))

-- the rows at or below a node of the map of some entries
pub entries-under : (node : List PathStep) (es : List Row) → IsStrictlySortedBy path_cmp (keys_of es) → entries (retain_keys (from_entries {R = path_cmp} es) (is_under node)) ≡ rows_under node es
entries-under node es s =
    ap entries (sym (from_entries-filter paths_total path_cmp-IsAntisymmetric (is_under node) es))
    ∙ entries-from_entries paths_total path_cmp-IsAntisymmetric (rows_under node es) (sorted-filter (is_under node) es s)

-- one row more is taken away
pub removed-turn : (es fs rows : List Row) (i : ℕ) (r : Row) → i < length rows → r ≡ get_or rows i r
    → ((q : List PathStep) → lookup (is_at (path_cmp q)) fs ≡ cond (is_at (path_cmp r.0) q) None (lookup (is_at (path_cmp q)) es))
    → without_rows (from_entries fs) (drop (i + 1) rows) ≡ without_rows (from_entries es) (drop i rows)
removed-turn es fs rows i r h is updates =
    let e : drop i rows ≡ r ∷ drop (i + 1) rows = drop_more rows i r h ∙ ap (λ (x : Row). x ∷ drop (i + 1) rows) (sym is) in
    ap (λ (m : Rows). without_rows m (drop (i + 1) rows)) (one_removed paths_total path_cmp-IsAntisymmetric es fs r.0 updates) ∙ sym (ap (without_rows (from_entries es)) e)

and_true : (b : Bool) → (b && not false) ≡ b
and_true true = refl
and_true false = refl

-- the first path after another is the first of the range past it
pub next_in_range : (path : List PathStep) (es : List Row) → slice_get (keys_of (entries_between path_cmp (Excluded path) Unbounded es)) 0 ≡ slice_get (filter (λ other. is_lt (path_cmp path other)) (keys_of es)) 0
next_in_range path es = ap (λ ks. slice_get ks 0) (
    keys_of-filter (range_contains path_cmp (Excluded path) Unbounded) es
    ∙ filter_agree (range_contains path_cmp (Excluded path) Unbounded) (λ other. is_lt (path_cmp path other)) (λ other. and_true (is_lt (path_cmp path other))) (keys_of es))

-- a map of entries in order has their paths
pub paths-from_entries : (es : List Row) → IsStrictlySortedBy path_cmp (keys_of es) → keys (from_entries {R = path_cmp} es) ≡ keys_of es
paths-from_entries es s = ap keys_of (entries-from_entries paths_total path_cmp-IsAntisymmetric es s)
