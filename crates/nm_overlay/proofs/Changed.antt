-- What a configuration with changes has at each path, and what its changes are.
use Rattle.std.proofs.Common.{◌≡◌, Bool, true, false, cond, List, [], ◌∷◌, ◌++◌, refl, sym, ap, ◌∙◌}
use Rattle.std.specs.Prelude.{◌↔◌, IsTrue, Option, Some, None, not, ◌&&◌, ◌||◌, map as each, filter, is_some}
use Rattle.std.specs.Ordering.{eq_by_cmp}
use Rattle.std.specs.List.{list_any}
use Rattle.std.specs.FinMap.{get, insert, remove, entries, keys, find, same_map, get-entries, get-insert, get-remove, get-from_entries, contains_key-keys}
use Rattle.std.proofs.lemmas.List.Folds.{list_any-append}
use Rattle.std.proofs.lemmas.Map.Views.{any-filter_same}
use Rattle.nm_types.specs.Path.{path_cmp}
use Rattle.nm_types.specs.PathLaws.{paths_total, path_cmp-IsAntisymmetric}
use Rattle.nm_types.specs.Value.{is_same_value}
use Rattle.nm_types.specs.ValueLaws.{same_value_decides}
use Rattle.nm_types.specs.declared.value.Value.{Value}
use Rattle.nm_config.specs.Rows.{Rows}
use Rattle.nm_overlay.specs.Differences.{Changes, differs, differences, with_change, with_changes, overridden, changes_at}
use Rattle.nm_overlay.specs.Places.{Pair}
use Rattle.nm_overlay.proofs.Order.{Place, one}

-- what is seen at a path: what is said of it, and else what stood there
abbrev pub seen : Option (Option Value) → Option Value → Option Value
seen None before = before
seen (Some after) before = after

get-with_change : (m : Rows) (p : Place) (c : Option Value) (q : Place) → get (with_change m p c) q ≡ cond (eq_by_cmp path_cmp q p) c (get m q)
get-with_change m p None q = get-remove paths_total m p q
get-with_change m p (Some v) q = get-insert paths_total m p v q

seen_first : (b : Bool) (c : Option Value) (o : Option (Option Value)) (before : Option Value)
    → cond b c (seen o before) ≡ seen (cond b (Some c) o) before
seen_first true c o before = refl
seen_first false c o before = refl

pub get-with_changes : (m : Rows) (cs : List Pair) (q : Place) → get (with_changes m cs) q ≡ seen (find path_cmp q cs) (get m q)
get-with_changes m [] q = refl
get-with_changes m (c ∷ cs) q =
    get-with_change (with_changes m cs) c.0 c.1 q
    ∙ ap (cond (eq_by_cmp path_cmp q c.0) c.1) (get-with_changes m cs q)
    ∙ seen_first (eq_by_cmp path_cmp q c.0) c.1 (find path_cmp q cs) (get m q)

pub get_overridden : (m : Rows) (changes : Changes) (q : Place) → get (overridden m changes) q ≡ seen (get changes q) (get m q)
unfolding overridden
get_overridden m changes q = get-with_changes m (entries changes) q ∙ ap (λ o. seen o (get m q)) (sym (get-entries changes q))

pub overridden-entries : (m : Rows) (changes : Changes) → overridden m changes ≡ with_changes m (entries changes)
unfolding overridden
overridden-entries m changes = refl

find-each : (f : Place → Option Value) (ks : List Place) (q : Place)
    → find path_cmp q (each (λ k. (k, f k)) ks) ≡ cond (list_any (eq_by_cmp path_cmp q) ks) (Some (f q)) None
find-each f [] q = refl
find-each f (k ∷ ks) q = by (eq_by_cmp path_cmp q k) refl (find-each f ks q)
  where
    by : (b : Bool) → eq_by_cmp path_cmp q k ≡ b
        → find path_cmp q (each (λ k. (k, f k)) ks) ≡ cond (list_any (eq_by_cmp path_cmp q) ks) (Some (f q)) None
        → cond b (Some (f k)) (find path_cmp q (each (λ k. (k, f k)) ks)) ≡ cond (b || list_any (eq_by_cmp path_cmp q) ks) (Some (f q)) None
    by true e h = ap (λ (x : Place). Some (f x)) (sym (one q k e))
    by false e h = h

among_both : (x y : Option Value) → cond (differs x y && (is_some x || is_some y)) (Some y) None ≡ cond (differs x y) (Some y) None
among_both None None = refl
among_both None (Some w) = refl
among_both (Some v) None = refl
among_both (Some v) (Some w) = by (is_same_value v w)
  where
    by : (b : Bool) → cond (not b && true) (Some (Some w)) None ≡ cond (not b) (Some (Some w)) None
    by true = refl
    by false = refl

-- two configurations differ at the paths of their differences and at no others
pub get-differences : (base rows : Rows) (q : Place)
    → get (differences base rows) q ≡ cond (differs (get base q) (get rows q)) (Some (get rows q)) None
get-differences base rows q =
    let test : Place → Bool = λ path. differs (get base path) (get rows path) in
    get-from_entries paths_total (each (λ path. (path, get rows path)) (filter test (keys base ++ keys rows))) q
    ∙ find-each (get rows) (filter test (keys base ++ keys rows)) q
    ∙ ap (λ b. cond b (Some (get rows q)) None) (
    any-filter_same (eq_by_cmp path_cmp q) test (test q) (λ k t. ap test (sym (one q k t))) (keys base ++ keys rows)
    ∙ ap (λ b. test q && b) (list_any-append (eq_by_cmp path_cmp q) (keys base) (keys rows))
    ∙ ap (λ b. test q && (b || list_any (eq_by_cmp path_cmp q) (keys rows))) (sym (contains_key-keys base q))
    ∙ ap (λ b. test q && (is_some (get base q) || b)) (sym (contains_key-keys rows q)))
    ∙ among_both (get base q) (get rows q)

no_change : (x : Option Value) → differs x x ≡ false
no_change None = refl
no_change (Some v) = ap not ((same_value_decides v v (is_same_value v v) refl).1 refl)

same_again : (x y : Option Value) → seen (cond (differs x y) (Some y) None) x ≡ y
same_again None None = refl
same_again None (Some w) = refl
same_again (Some v) None = refl
same_again (Some v) (Some w) = by (is_same_value v w) refl
  where
    by : (b : Bool) → is_same_value v w ≡ b → seen (cond (not b) (Some (Some w)) None) (Some v) ≡ Some w
    by true e = ap Some ((same_value_decides v w (is_same_value v w) refl).0 e)
    by false e = refl

-- what a configuration changes of another, put over that other one, makes it
pub overridden-differences : (base rows : Rows) → overridden base (differences base rows) ≡ rows
overridden-differences base rows = same_map paths_total path_cmp-IsAntisymmetric _ _ (λ q.
    get_overridden base (differences base rows) q ∙ ap (λ o. seen o (get base q)) (get-differences base rows q)
    ∙ same_again (get base q) (get rows q))

-- changes that are ones are the differences of what they make
pub own-differences : (base : Rows) (changes : Changes) → ((q : Place) → changes_at (get changes q) (get base q) ≡ true)
    → changes ≡ differences base (overridden base changes)
own-differences base changes are = same_map paths_total path_cmp-IsAntisymmetric _ _ (λ q.
    by (get changes q) (get base q) (are q)
    ∙ sym (get-differences base (overridden base changes) q ∙ ap (λ y. cond (differs (get base q) y) (Some y) None) (get_overridden base changes q)))
  where
    by : (o : Option (Option Value)) (x : Option Value) → changes_at o x ≡ true → o ≡ cond (differs x (seen o x)) (Some (seen o x)) None
    by None x h = sym (ap (λ b. cond b (Some x) None) (no_change x))
    by (Some c) x h = sym (ap (λ b. cond b (Some c) None) h)

-- no changes make nothing else
pub overridden-empty : (base : Rows) (changes : Changes) → ((q : Place) → get changes q ≡ None) → overridden base changes ≡ base
overridden-empty base changes none = same_map paths_total path_cmp-IsAntisymmetric _ _ (λ q. get_overridden base changes q
    ∙ ap (λ o. seen o (get base q)) (none q))

seen_put : (b : Bool) (v : Value) (o : Option (Option Value)) (x : Option Value) → seen (cond b (Some (Some v)) o) x ≡ cond b (Some v) (seen o x)
seen_put true v o x = refl
seen_put false v o x = refl

-- a change more is that row put
pub overridden-put : (base : Rows) (changes : Changes) (p : Place) (v : Value)
    → overridden base (insert changes p (Some v)) ≡ insert (overridden base changes) p v
overridden-put base changes p v = same_map paths_total path_cmp-IsAntisymmetric _ _ (λ q.
    get_overridden base (insert changes p (Some v)) q
    ∙ ap (λ o. seen o (get base q)) (get-insert paths_total changes p (Some v) q)
    ∙ seen_put (eq_by_cmp path_cmp q p) v (get changes q) (get base q)
    ∙ ap (cond (eq_by_cmp path_cmp q p) (Some v)) (sym (get_overridden base changes q))
    ∙ sym (get-insert paths_total (overridden base changes) p v q))

-- a change less is the row of the base put
pub overridden-kept : (base : Rows) (changes : Changes) (p : Place) (v : Value) → get base p ≡ Some v
    → overridden base (remove changes p) ≡ insert (overridden base changes) p v
overridden-kept base changes p v is = same_map paths_total path_cmp-IsAntisymmetric _ _ (λ q.
    get_overridden base (remove changes p) q
    ∙ ap (λ o. seen o (get base q)) (get-remove paths_total changes p q)
    ∙ by q (eq_by_cmp path_cmp q p) refl
    ∙ ap (cond (eq_by_cmp path_cmp q p) (Some v)) (sym (get_overridden base changes q))
    ∙ sym (get-insert paths_total (overridden base changes) p v q))
  where
    by : (q : Place) (b : Bool) → eq_by_cmp path_cmp q p ≡ b
        → seen (cond b None (get changes q)) (get base q) ≡ cond b (Some v) (seen (get changes q) (get base q))
    by q true e = ap (get base) (one q p e) ∙ is
    by q false e = refl

-- changes stay ones where another is put and where one is taken
pub changes-put : (base : Rows) (changes : Changes) (p : Place) (v : Value) → ((q : Place) → changes_at (get changes q) (get base q) ≡ true)
    → differs (get base p) (Some v) ≡ true → (q : Place) → changes_at (get (insert changes p (Some v)) q) (get base q) ≡ true
changes-put base changes p v are new q = ap (λ o. changes_at o (get base q)) (get-insert paths_total changes p (Some v) q)
    ∙ by (eq_by_cmp path_cmp q p) refl
  where
    by : (b : Bool) → eq_by_cmp path_cmp q p ≡ b → changes_at (cond b (Some (Some v)) (get changes q)) (get base q) ≡ true
    by true e = ap (λ (k : Place). differs (get base k) (Some v)) (one q p e) ∙ new
    by false e = are q

pub changes-kept : (base : Rows) (changes : Changes) (p : Place) → ((q : Place) → changes_at (get changes q) (get base q) ≡ true)
    → (q : Place) → changes_at (get (remove changes p) q) (get base q) ≡ true
changes-kept base changes p are q = ap (λ o. changes_at o (get base q)) (get-remove paths_total changes p q) ∙ by (eq_by_cmp path_cmp q p) (are q)
  where
    by : (b : Bool) → changes_at (get changes q) (get base q) ≡ true → changes_at (cond b None (get changes q)) (get base q) ≡ true
    by true h = refl
    by false h = h

-- a value that isn't the one there is a change
pub other_value : (x : Option Value) (v : Value) → (x ≡ Some v → false ≡ true) → differs x (Some v) ≡ true
other_value None v h = refl
other_value (Some w) v h = by (is_same_value w v) refl
  where
    by : (b : Bool) → is_same_value w v ≡ b → not b ≡ true
    by true e = h (ap Some ((same_value_decides w v (is_same_value w v) refl).0 e))
    by false e = refl

-- what tells whether a value is the one there tells whether it isn't a change
pub told_differs : (o : Option Value) (v : Value) (r : Bool) → IsTrue r ↔ (o ≡ Some v) → not r ≡ differs o (Some v)
told_differs None v true tells = absurd (let e = tells.0 refl in cc)
told_differs None v false tells = refl
told_differs (Some w) v r tells = by r (is_same_value w v) refl tells
  where
    by : (r b : Bool) → is_same_value w v ≡ b → IsTrue r ↔ (Some w ≡ Some v) → not r ≡ not b
    by true true e tells = refl
    by false false e tells = refl
    by true false e tells = let same : Some w ≡ Some v = tells.0 refl in let is : w ≡ v = cc in absurd (let f : false ≡ true = (same_value_decides w v false (sym e)).1 is in cc)
    by false true e tells = absurd (let f : false ≡ true = tells.1 (ap Some ((same_value_decides w v true (sym e)).0 refl)) in cc)
