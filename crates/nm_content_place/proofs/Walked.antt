-- What a walk over the rows at or below a node finds is what all rows have.
use Rattle.std.proofs.Common.{◌≡◌, List, [], ◌∷◌, Bool, true, false, cond, not, ◌&&◌, ◌||◌, Option, is_some, refl, sym, ap, ◌∙◌}
use Rattle.std.specs.Prelude.{filter}
use Rattle.std.specs.List.{list_all, list_any}
use Rattle.std.specs.FinMap.{get, entries, keys, entries_sorted, get-entries}
use Rattle.nm_types.specs.declared.value.Value.{Value}
use Rattle.nm_config.specs.Rows.{Rows}
use Rattle.nm_config.specs.Under.{is_under}
use Rattle.nm_overlay.proofs.Order.{Place, under_itself}
use Rattle.nm_overlay.proofs.Below.{begins_below}
use Rattle.nm_content_place.specs.Place.{same_value, is_shared, has_part_of}
use Rattle.nm_content_place.specs.Walk.{below_after}

-- ---- what doesn't count elsewhere is looked for there alone

pub all_below : (f : Place → Bool) (node : Place) (paths : List Place) → ((q : Place) → is_under node q ≡ false → f q ≡ true) → list_all f paths ≡ list_all f (filter (is_under node) paths)
all_below f node [] h = refl
all_below f node (q ∷ paths) h = by (is_under node q) refl (all_below f node paths h)
  where
    by : (b : Bool) → is_under node q ≡ b → list_all f paths ≡ list_all f (filter (is_under node) paths)
        → (f q && list_all f paths) ≡ list_all f (cond b (q ∷ filter (is_under node) paths) (filter (is_under node) paths))
    by true i rest = ap (λ b. f q && b) rest
    by false i rest = ap (λ b. b && list_all f paths) (h q i) ∙ rest

pub any_below : (f : Place → Bool) (node : Place) (paths : List Place) → ((q : Place) → is_under node q ≡ false → f q ≡ false) → list_any f paths ≡ list_any f (filter (is_under node) paths)
any_below f node [] h = refl
any_below f node (q ∷ paths) h = by (is_under node q) refl (any_below f node paths h)
  where
    by : (b : Bool) → is_under node q ≡ b → list_any f paths ≡ list_any f (filter (is_under node) paths)
        → (f q || list_any f paths) ≡ list_any f (cond b (q ∷ filter (is_under node) paths) (filter (is_under node) paths))
    by true i rest = ap (λ b. f q || b) rest
    by false i rest = ap (λ b. b || list_any f paths) (h q i) ∙ rest

-- those at or below a node: its own row, and then those after it
pub begins : (rows : Rows) (node : Place) → filter (is_under node) (keys rows) ≡ cond (is_some (get rows node)) (node ∷ below_after rows node node) (below_after rows node node)
begins rows node =
    begins_below node (entries rows) (entries_sorted rows)
    ∙ ap (λ (o : Option Value). cond (is_some o) (node ∷ below_after rows node node) (below_after rows node node)) (sym (get-entries rows node))

-- ---- the same at a node

outside_shared : (one other : Rows) (path q : Place) → is_under path q ≡ false → is_shared one other path q ≡ true
outside_shared one other path q out = ap (λ b. not b || same_value (get one q) (get other q)) out

pub part_walked : (one other : Rows) (path : Place)
    → ((not (is_some (get one path)) || same_value (get one path) (get other path)) && list_all (is_shared one other path) (below_after one path path)) ≡ has_part_of other one path
part_walked one other path =
    by (is_some (get one path))
    ∙ sym (ap (list_all (is_shared one other path)) (begins one path))
    ∙ sym (all_below (is_shared one other path) path (keys one) (outside_shared one other path))
  where
    left : List Place
    left = below_after one path path

    same : Bool
    same = same_value (get one path) (get other path)

    by : (b : Bool) → ((not b || same) && list_all (is_shared one other path) left) ≡ list_all (is_shared one other path) (cond b (path ∷ left) left)
    by true = ap (λ u. (not u || same) && list_all (is_shared one other path) left) (sym (under_itself path))
    by false = refl
