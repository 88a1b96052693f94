-- What of all that is said of rows changes them.
use Rattle.std.proofs.Common.{◌≡◌, List, [], ◌∷◌, ◌++◌, Bool, true, false, cond, if◌then◌else◌, refl, sym, ap, ◌∙◌}
use Rattle.std.specs.Prelude.{Option, Some, None, not, filter}
use Rattle.std.specs.Ordering.{eq_by_cmp}
use Rattle.std.specs.List.{flat_map}
use Rattle.std.specs.FinMap.{get, find, entries, from_entries, same_map, entries_sorted, get-entries}
use Rattle.nm_types.specs.Path.{path_cmp}
use Rattle.nm_types.specs.PathLaws.{paths_total, path_cmp-IsAntisymmetric}
use Rattle.nm_types.specs.Value.{is_same_value}
use Rattle.nm_types.specs.ValueLaws.{same_value_decides}
use Rattle.nm_types.specs.declared.value.Value.{Value}
use Rattle.nm_config.specs.Rows.{Rows}
use Rattle.nm_overlay.specs.Differences.{Changes, differs, differences, overridden, changes_at}
use Rattle.nm_overlay.specs.Places.{Pair, Ascends}
use Rattle.nm_overlay.proofs.Order.{Place, one}
use Rattle.nm_overlay.proofs.Sorted.{Below, head_below, tail_sorted, cons_sorted, below_head, below_tail, below_cons, find_below}
use Rattle.nm_overlay.proofs.Mapped.{get-mapped, entries-mapped}
use Rattle.nm_overlay.proofs.Changed.{seen, get_overridden, get-differences}
use Rattle.nm_edit.specs.Said.{is_change, change_at}

-- ---- what a test keeps of pairs ascends as they do

below_kept : (test : Pair → Bool) (x : Place) (es : List Pair) → Below x es → Below x (filter test es)
below_kept test x [] h = tt
below_kept test x (e ∷ es) h = by (test e) (below_kept test x es (below_tail x e es h))
  where
    by : (b : Bool) → Below x (filter test es) → Below x (cond b (e ∷ filter test es) (filter test es))
    by true rest = below_cons x e (filter test es) (below_head x e es h) rest
    by false rest = rest

kept_ascends : (test : Pair → Bool) (es : List Pair) → Ascends es → Ascends (filter test es)
kept_ascends test [] s = tt
kept_ascends test (e ∷ es) s = by (test e) (kept_ascends test es (tail_sorted e es s))
  where
    by : (b : Bool) → Ascends (filter test es) → Ascends (cond b (e ∷ filter test es) (filter test es))
    by true rest = cons_sorted e (filter test es) (below_kept test e.0 es (head_below e es s)) rest
    by false rest = rest

-- ---- what is kept of what is said of a path

abbrev kept : Option Value → Option (Option Value) → Option (Option Value)
kept before None = None
kept before (Some after) = cond (differs before after) (Some after) None

find_kept : (old : Rows) (es : List Pair) → Ascends es → (q : Place) → find path_cmp q (filter (is_change old) es) ≡ kept (get old q) (find path_cmp q es)
find_kept old [] s q = refl
find_kept old (e ∷ es) s q = by (is_change old e) refl (eq_by_cmp path_cmp q e.0) refl (find_kept old es (tail_sorted e es s) q)
  where
    left : List Pair
    left = filter (is_change old) es

    here : (b : Bool) → is_change old e ≡ b → eq_by_cmp path_cmp q e.0 ≡ true → cond b (Some e.1) None ≡ kept (get old q) (Some e.1)
    here b d i = sym (ap (λ c. cond c (Some e.1) None) (ap (λ (x : Place). differs (get old x) e.1) (one q e.0 i) ∙ d))

    by : (b : Bool) → is_change old e ≡ b → (c : Bool) → eq_by_cmp path_cmp q e.0 ≡ c → find path_cmp q left ≡ kept (get old q) (find path_cmp q es)
        → find path_cmp q (cond b (e ∷ left) left) ≡ kept (get old q) (cond c (Some e.1) (find path_cmp q es))
    by true d true i rest = ap (λ c. cond c (Some e.1) (find path_cmp q left)) i ∙ here true d i
    by true d false i rest = ap (λ c. cond c (Some e.1) (find path_cmp q left)) i ∙ rest
    by false d true i rest =
        rest ∙ ap (kept (get old q)) (ap (λ (x : Place). find path_cmp x es) (one q e.0 i) ∙ find_below e.0 es (head_below e es s)) ∙ here false d i
    by false d false i rest = rest

unchanged : (x : Option Value) → differs x x ≡ false
unchanged None = refl
unchanged (Some v) = ap not ((same_value_decides v v (is_same_value v v) refl).1 refl)

as_kept : (before : Option Value) (o : Option (Option Value)) → kept before o ≡ cond (differs before (seen o before)) (Some (seen o before)) None
as_kept before None = sym (ap (λ b. cond b (Some before) None) (unchanged before))
as_kept before (Some after) = refl

-- of what is said of rows what isn't so of them is what it changes
pub exact_changes : (old : Rows) (w : Changes) → filter (is_change old) (entries w) ≡ entries (differences old (overridden old w))
exact_changes old w =
    let fs = filter (is_change old) (entries w) in
    sym (entries-mapped fs (kept_ascends (is_change old) (entries w) (entries_sorted w)))
    ∙ ap entries (same_map paths_total path_cmp-IsAntisymmetric (from_entries {R = path_cmp} fs) (differences old (overridden old w)) (λ q.
    get-mapped fs q ∙ find_kept old (entries w) (entries_sorted w) q ∙ ap (kept (get old q)) (sym (get-entries w q)) ∙ as_kept (get old q) (get w q)
    ∙ sym (get-differences old (overridden old w) q ∙ ap (λ y. cond (differs (get old q) y) (Some y) None) (get_overridden old w q))))

-- ---- one after another

pub each_change : (old : Rows) (es : List Pair) → flat_map (change_at old) es ≡ filter (is_change old) es
each_change old [] = refl
each_change old (e ∷ es) = by (is_change old e) (each_change old es)
  where
    by : (b : Bool) → flat_map (change_at old) es ≡ filter (is_change old) es
        → (if b then e ∷ [] else []) ++ flat_map (change_at old) es ≡ cond b (e ∷ filter (is_change old) es) (filter (is_change old) es)
    by true rest = ap (λ (l : List Pair). e ∷ l) rest
    by false rest = rest

-- the differences of configurations are changes
pub differences_change : (old made : Rows) (q : Place) → changes_at (get (differences old made) q) (get old q) ≡ true
differences_change old made q = ap (λ o. changes_at o (get old q)) (get-differences old made q) ∙ by (differs (get old q) (get made q)) refl
  where
    by : (b : Bool) → differs (get old q) (get made q) ≡ b → changes_at (cond b (Some (get made q)) None) (get old q) ≡ true
    by true e = e
    by false e = refl
