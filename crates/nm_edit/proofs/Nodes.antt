-- Which nodes go of the rows that are there.
use Rattle.std.proofs.Common.{◌≡◌, List, [], ◌∷◌, Bool, true, false, cond, ◌||◌, None, if◌then◌else◌, refl, sym, ap, ◌∙◌}
use Rattle.std.specs.Ordering.{eq_by_cmp}
use Rattle.std.specs.List.{list_any, dedup, dedup_from}
use Rattle.std.specs.FinMap.{get, empty, same_map, get-empty}
use Rattle.nm_types.specs.Path.{path_cmp}
use Rattle.nm_types.specs.PathLaws.{paths_total, path_cmp-IsAntisymmetric}
use Rattle.nm_config.specs.Rows.{Rows}
use Rattle.nm_config.specs.Under.{is_under}
use Rattle.nm_edit.specs.Edited.{all_without}
use Rattle.nm_edit.specs.Laws.{goes}
use Rattle.nm_edit.proofs.After.{get_all_without}
use Rattle.nm_overlay.proofs.Order.{Place, one}

-- nodes that have the same paths at or below them take the same rows away
pub take_alike : (rows : Rows) (ns ms : List Place) → ((q : Place) → goes ns q ≡ goes ms q) → all_without rows ns ≡ all_without rows ms
take_alike rows ns ms same = same_map paths_total path_cmp-IsAntisymmetric _ _ (λ q.
    get_all_without rows ns q ∙ ap (λ b. if b then None else get rows q) (same q) ∙ sym (get_all_without rows ms q))

twice : (a b c : Bool) → a ≡ b → (a || c) ≡ (a || (b || c))
twice true b c e = refl
twice false b c e = ap (λ x. x || c) e

any_dedup : (f : Place → Bool) (k : Place) (xs : List Place) → list_any f (dedup_from (eq_by_cmp path_cmp) k xs) ≡ list_any f (k ∷ xs)
any_dedup f k [] = refl
any_dedup f k (x ∷ xs) = by (eq_by_cmp path_cmp x k) refl (any_dedup f k xs) (any_dedup f x xs)
  where
    by : (b : Bool) → eq_by_cmp path_cmp x k ≡ b → list_any f (dedup_from (eq_by_cmp path_cmp) k xs) ≡ list_any f (k ∷ xs)
        → list_any f (dedup_from (eq_by_cmp path_cmp) x xs) ≡ list_any f (x ∷ xs)
        → list_any f (cond b (dedup_from (eq_by_cmp path_cmp) k xs) (k ∷ dedup_from (eq_by_cmp path_cmp) x xs)) ≡ list_any f (k ∷ x ∷ xs)
    by true e same next = same ∙ twice (f k) (f x) (list_any f xs) (ap f (sym (one x k e)))
    by false e same next = ap (λ b. f k || b) next

-- nodes each once have the same paths at or below them
pub goes_dedup : (xs : List Place) (q : Place) → goes (dedup (eq_by_cmp path_cmp) xs) q ≡ goes xs q
goes_dedup [] q = refl
goes_dedup (x ∷ xs) q = any_dedup (λ node. is_under node q) x xs

below_top : (q : Place) → goes ([] ∷ []) q ≡ true
unfolding is_under
below_top q = refl

either_way : {X : Type 0} (b : Bool) (x : X) → (if b then x else x) ≡ x
either_way true x = refl
either_way false x = refl

-- below the top is everything
pub nothing_left : (rows : Rows) (others : List Place) → all_without rows ([] ∷ []) ≡ all_without empty others
nothing_left rows others = same_map paths_total path_cmp-IsAntisymmetric _ _ (λ q.
    get_all_without rows ([] ∷ []) q ∙ ap (λ b. if b then None else get rows q) (below_top q)
    ∙ sym (get_all_without empty others q ∙ ap (λ o. if goes others q then None else o) (get-empty path_cmp q) ∙ either_way (goes others q) None))
