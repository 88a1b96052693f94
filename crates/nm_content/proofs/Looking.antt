-- A mark is looked for among all rows.
use Rattle.std.proofs.Common.{◌≡◌, ℕ, List, [], ◌∷◌, Bool, ◌||◌, refl, sym, ap, ◌∙◌}
use Rattle.std.specs.List.{list_any}
use Rattle.std.specs.Ordering.{eq_by_cmp}
use Rattle.std.specs.FinMap.{keys, contains_key-keys}
use Rattle.nm_types.specs.Path.{PathStep, path_cmp}
use Rattle.nm_types.specs.PathLaws.{same_path_decides}
use Rattle.nm_config.specs.Rows.{Rows}
use Rattle.nm_content.specs.Mark.{mark_path, has_mark, mark_at, is_mark_of}
use Rattle.nm_content.specs.MarkLaws.{at_itself, at_is, alike, given_is, given_itself}

any_same : (p q : List PathStep → Bool) (paths : List (List PathStep)) → ((path : List PathStep) → p path ≡ q path) → list_any p paths ≡ list_any q paths
any_same p q [] h = refl
any_same p q (path ∷ paths) h = ap (λ b. b || list_any p paths) (h path) ∙ ap (λ b. q path || b) (any_same p q paths h)

same_test : (n : ℕ) (path : List PathStep) → eq_by_cmp path_cmp (mark_path n) path ≡ is_mark_of n path
same_test n path =
    let decides = same_path_decides (mark_path n) path _ refl in
    alike _ _
    (λ e. given_itself n (mark_at path) (ap mark_at (sym (decides.0 e)) ∙ at_itself n))
    (λ e. decides.1 (sym (at_is path n (given_is n (mark_at path) e))))

pub has_mark_keys : (rows : Rows) (n : ℕ) → list_any (is_mark_of n) (keys rows) ≡ has_mark rows n
has_mark_keys rows n = sym (contains_key-keys rows (mark_path n) ∙ any_same (eq_by_cmp path_cmp (mark_path n)) (is_mark_of n) (keys rows) (same_test n))
