-- The map of ascending pairs, under what is done to them.
use Rattle.std.proofs.Common.{◌≡◌, Bool, true, false, cond, List, Result, Ok, Err, OnOk, OnErr, refl, sym, ap, ◌∙◌}
use Rattle.std.specs.Prelude.{Option, Some, None, not, filter}
use Rattle.std.specs.Ordering.{is_eq, eq_by_cmp}
use Rattle.std.specs.Cmp.{alike_right, eq_by_cmp_equiv}
use Rattle.std.specs.List.{splice}
use Rattle.std.specs.FinMap.{get, insert, remove, entries, from_entries, from_sorted, find, put, same_map, get-from_entries, get-from_sorted, entries-from_sorted, get-insert, get-remove}
use Rattle.std.specs.FinMap.Entries.{where_key, find-put, find-where_key}
use Rattle.nm_types.specs.Path.{path_cmp}
use Rattle.nm_types.specs.PathLaws.{paths_total, path_cmp-IsAntisymmetric}
use Rattle.nm_types.specs.declared.value.Value.{Value}
use Rattle.nm_config.specs.Under.{is_under}
use Rattle.nm_overlay.specs.Places.{Pair, Ascends, front, is_before, is_before_or_under}
use Rattle.nm_overlay.proofs.Order.{Place}
use Rattle.nm_overlay.proofs.Replaced.{spliced, find-parts}

-- what follows in both cases holds
pub whichever : {A E X Y P : Type 0} (r : Result A E) → OnOk r X → OnErr r Y → (X → P) → (Y → P) → P
whichever (Ok a) x y f g = f x
whichever (Err e) x y f g = g y

pub on_ok : {A E X Y : Type 0} (r : Result A E) → (X → Y) → OnOk r X → OnOk r Y
on_ok (Ok a) f x = f x
on_ok (Err e) f x = tt

-- what the map of some pairs has at a path
pub get-mapped : (es : List Pair) (q : Place) → get (from_entries {R = path_cmp} es) q ≡ find path_cmp q es
get-mapped es q = get-from_entries paths_total es q

pub entries-mapped : (es : List Pair) → Ascends es → entries (from_entries {R = path_cmp} es) ≡ es
entries-mapped es s =
    let e : from_entries {R = path_cmp} es ≡ from_sorted es = same_map paths_total path_cmp-IsAntisymmetric _ _ (λ q. get-from_entries paths_total es q
    ∙ sym (get-from_sorted path_cmp es q s)) in
    ap entries e ∙ entries-from_sorted path_cmp es s

pub mapped-put : (k : Place) (v : Option Value) (es : List Pair) → from_entries {R = path_cmp} (put path_cmp k v es) ≡ insert (from_entries es) k v
mapped-put k v es = same_map paths_total path_cmp-IsAntisymmetric _ _ (λ q.
    get-mapped (put path_cmp k v es) q ∙ find-put path_cmp paths_total q k v es
    ∙ ap (cond (eq_by_cmp path_cmp q k) (Some v)) (sym (get-mapped es q)) ∙ sym (get-insert paths_total (from_entries es) k v q))

turned_cond : {A : Type 0} (b : Bool) (x y : A) → cond (not b) x y ≡ cond b y x
turned_cond true x y = refl
turned_cond false x y = refl

pub mapped-remove : (k : Place) (es : List Pair)
    → from_entries {R = path_cmp} (where_key path_cmp (λ x. not (eq_by_cmp path_cmp k x)) es) ≡ remove (from_entries es) k
mapped-remove k es = same_map paths_total path_cmp-IsAntisymmetric _ _ (λ q.
    get-mapped (where_key path_cmp (λ x. not (eq_by_cmp path_cmp k x)) es) q
    ∙ find-where_key path_cmp (λ x. not (eq_by_cmp path_cmp k x)) q (λ x t. ap (λ r. not (is_eq r)) (sym (alike_right paths_total q x k t))) es
    ∙ turned_cond (eq_by_cmp path_cmp k q) (find path_cmp q es) None
    ∙ ap (λ b. cond b None (find path_cmp q es)) ((eq_by_cmp_equiv paths_total).symm k q)
    ∙ ap (cond (eq_by_cmp path_cmp q k) None) (sym (get-mapped es q))
    ∙ sym (get-remove paths_total (from_entries es) k q))

pub mapped-splice : (node : Place) (es others : List Pair) → Ascends es → Ascends others → filter (λ e. is_under node e.0) others ≡ others
    → (q : Place)
    → get (from_entries {R = path_cmp} (splice es (front (is_before node) es) (front (is_before_or_under node) es) others)) q
    ≡ cond (is_under node q) (find path_cmp q others) (get (from_entries {R = path_cmp} es) q)
mapped-splice node es others s t u q =
    get-mapped (splice es (front (is_before node) es) (front (is_before_or_under node) es) others) q
    ∙ ap (find path_cmp q) (spliced node es others s)
    ∙ find-parts node es others s t u q
    ∙ ap (cond (is_under node q) (find path_cmp q others)) (sym (get-mapped es q))
