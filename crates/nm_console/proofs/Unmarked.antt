-- A configuration that a reader takes has no marks.
use Rattle.std.proofs.Common.{◌≡◌, ◌∙◌, ◌||◌, ℕ, List, [], ◌∷◌, Bool, true, false, is_some, nat_cmp, refl, subst, ap}
use Rattle.std.specs.List.{list_any}
use Rattle.std.specs.FinMap.{empty, get, keys, contains_key-keys, get-empty}
use Rattle.std.specs.Ordering.{eq_by_cmp}
use Rattle.nm_base.specs.Words.{marker_name}
use Rattle.nm_types.specs.Path.{PathStep, path_cmp}
use Rattle.nm_types.specs.PathLaws.{same_path_decides}
use Rattle.nm_flat.specs.Flat.{FlatState, flat_has_mark}
use Rattle.nm_config.specs.Rows.{Rows}
use Rattle.nm_config.specs.Under.{is_under}
use Rattle.nm_content.specs.Mark.{applied_name, changes_name, changes_step, has_mark, mark_path}
use Rattle.nm_scenario.specs.Yang.{holds_marks}

-- flat contents have none where their set of marks is empty
pub flat_unmarked : (config : FlatState) → config.marks ≡ empty → (n : ℕ) → flat_has_mark config n ≡ false
flat_unmarked config none n = ap (λ marks. is_some (get marks n)) none ∙ ap is_some (get-empty nat_cmp n)

-- a mark stands below the container of all
below_all : (n : ℕ) → is_under (changes_step ∷ []) (mark_path n) ≡ true
unfolding is_under changes_name applied_name marker_name
below_all n = refl

left_off : (one other : Bool) → (one || other) ≡ false → one ≡ false
left_off true other off = absurd cc
left_off false other off = refl

right_off : (one other : Bool) → (one || other) ≡ false → other ≡ false
right_off true other off = absurd cc
right_off false other off = off

both_off : (one other : Bool) → one ≡ false → other ≡ false → (one || other) ≡ false
both_off true other off rest = absurd cc
both_off false other off rest = rest

-- two paths are apart where one of them alone stands below a node
apart : (node path other : List PathStep) → is_under node path ≡ true → is_under node other ≡ false → (same : Bool) → same ≡ eq_by_cmp path_cmp path other → same ≡ false
apart node path other under off true e =
    let is : path ≡ other = (same_path_decides path other true e).0 refl in
    absurd (let there : is_under node other ≡ true = subst (λ p. is_under node p ≡ true) is under in cc)
apart node path other under off false e = refl

-- a path isn't among those of which none stands below a node, if it does
not_among : (node path : List PathStep) → is_under node path ≡ true → (paths : List (List PathStep)) → list_any (is_under node) paths ≡ false
    → list_any (eq_by_cmp path_cmp path) paths ≡ false
not_among node path under [] none = refl
not_among node path under (other ∷ paths) none =
    both_off (eq_by_cmp path_cmp path other) (list_any (eq_by_cmp path_cmp path) paths)
    (apart node path other under (left_off (is_under node other) (list_any (is_under node) paths) none) (eq_by_cmp path_cmp path other) refl)
    (not_among node path under paths (right_off (is_under node other) (list_any (is_under node) paths) none))

-- YANG data have none where nothing stands below the container of all
pub data_unmarked : (rows : Rows) → holds_marks rows ≡ false → (n : ℕ) → has_mark rows n ≡ false
unfolding holds_marks
data_unmarked rows none n = contains_key-keys rows (mark_path n) ∙ not_among (changes_step ∷ []) (mark_path n) (below_all n) (keys rows) none
