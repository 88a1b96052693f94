-- The paths at which a configuration differs from what it lies over cover what the two differ in.
use Rattle.std.proofs.Common.{◌≡◌, List, Bool, true, false, not, cond, Option, Some, None, is_some, Contains, refl, sym, ap, subst, ◌∙◌}
use Rattle.std.specs.Ordering.{eq_by_cmp}
use Rattle.std.specs.FinMap.{get, keys, contains_key, contains_key-keys}
use Rattle.nm_types.specs.declared.value.Value.{Value}
use Rattle.nm_types.specs.Path.{PathStep, path_cmp}
use Rattle.nm_types.specs.Value.{is_same_value}
use Rattle.nm_types.specs.ValueLaws.{same_value_decides}
use Rattle.nm_types.specs.PathLaws.{same_path_decides}
use Rattle.nm_config.specs.Rows.{Rows}
use Rattle.nm_config.specs.Under.{is_under}
use Rattle.nm_validate_rules.proofs.Among.{any_passes, among_contains}
use Rattle.nm_validate_rules.specs.Reaches.{Covers}
use Rattle.nm_overlay.specs.Differences.{Changes, differs, difference_at, differences}
use Rattle.nm_overlay.proofs.Changed.{get-differences}
use Rattle.nm_overlay.proofs.Order.{under_itself}

not_same : (v w : Value) (b : Bool) → is_same_value v w ≡ b → (Some v ≡ Some w → ⊥) → not (is_same_value v w) ≡ true
not_same v w true e change = absurd (change (ap Some ((same_value_decides v w (is_same_value v w) refl).0 e)))
not_same v w false e change = ap not e

differ_so : (before after : Option Value) → (before ≡ after → ⊥) → differs before after ≡ true
differ_so None None change = absurd (change refl)
differ_so None (Some w) change = refl
differ_so (Some v) None change = refl
differ_so (Some v) (Some w) change = not_same v w (is_same_value v w) refl change

-- a path at which changes say something is among theirs
said_among : (changes : Changes) (path : List PathStep) → contains_key changes path ≡ true → Contains (keys changes) path
said_among changes path e =
    let h = any_passes (eq_by_cmp path_cmp path) (keys changes) (sym (contains_key-keys changes path) ∙ e) in
    let same : path ≡ h.x = (same_path_decides path h.x (eq_by_cmp path_cmp path h.x) refl).0 h.passes in
    subst (λ p. Contains (keys changes) p) (sym same) (among_contains (keys changes) h.x h.among)

pub differences_cover : (base rows : Rows) → Covers (keys (differences base rows)) base rows
differences_cover base rows row change =
    let said : contains_key (differences base rows) row ≡ true =
    ap is_some (get-differences base rows row ∙ ap (λ b. cond b (Some (get rows row)) None) (differ_so (get base row) (get rows row) change)) in
    record { by = row; among = said_among (differences base rows) row said; under = under_itself row }
