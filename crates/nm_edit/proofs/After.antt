-- The value at each path once rows go and rows come.
use Rattle.std.proofs.Common.{◌≡◌, List, [], ◌∷◌, ◌++◌, Bool, true, false, cond, not, ◌||◌, Option, Some, None, Ok, Err, if◌then◌else◌, refl, sym, ap, ◌∙◌}
use Rattle.std.specs.Prelude.{nat_lt}
use Rattle.std.specs.Option.{option_or}
use Rattle.std.specs.Ordering.{eq_by_cmp}
use Rattle.std.specs.FinMap.{get, len, insert, get-insert, get-retain_keys}
use Rattle.std.proofs.lemmas.Grind.{fold-append}
use Rattle.nm_base.specs.declared.tag.Tag.TheVariants.{ResourceDenied}
use Rattle.nm_types.specs.Path.{PathStep, path_cmp}
use Rattle.nm_types.specs.PathLaws.{paths_total, path_cmp-IsAntisymmetric}
use Rattle.nm_types.specs.declared.value.Value.{Value}
use Rattle.nm_proto.specs.Content.{Refusal}
use Rattle.nm_proto.specs.declared.message.DefaultOperation.{DefaultOperation}
use Rattle.nm_schema_tree.specs.Nodes.{SchemaTree}
use Rattle.nm_config.specs.Rows.{Rows, with_entries}
use Rattle.nm_config.specs.Under.{is_under, without_under}
use Rattle.nm_json.specs.Whole.{row_limit}
use Rattle.nm_edit.specs.declared.edit.EditNode.{EditNode}
use Rattle.nm_edit.specs.declared.act.Act.{Act}
use Rattle.nm_edit.specs.Acts.{acts, coming}
use Rattle.nm_edit.specs.Refusals.{first_refusal}
use Rattle.nm_edit.specs.Edited.{all_without, gone, ousted, held, base_of, moves_by, moved, brought, limited, unless, edited_rows}
use Rattle.nm_edit.specs.Laws.{last_at, goes, value_by, value_after}

-- ---- what goes

turned : {X : Type 0} (b : Bool) (o : Option X) → cond (not b) o None ≡ (if b then None else o)
turned true o = refl
turned false o = refl

-- what rows have at a path without those at or below a node
pub get_without : (rows : Rows) (node path : List PathStep) → get (without_under rows node) path ≡ (if is_under node path then None else get rows path)
get_without rows node path =
    get-retain_keys rows (λ p. not (is_under node p)) path (λ x t. ap (λ p. not (is_under node p)) (sym (path_cmp-IsAntisymmetric path x t)))
    ∙ turned (is_under node path) (get rows path)

either_goes : {X : Type 0} (a b : Bool) (o : Option X) → (if b then None else (if a then None else o)) ≡ (if a || b then None else o)
either_goes true true o = refl
either_goes true false o = refl
either_goes false b o = refl

pub get_all_without : (rows : Rows) (nodes : List (List PathStep)) (path : List PathStep) → get (all_without rows nodes) path ≡ (if goes nodes path then None else get rows path)
get_all_without rows [] path = refl
get_all_without rows (node ∷ nodes) path =
    get_all_without (without_under rows node) nodes path
    ∙ ap (λ o. if goes nodes path then None else o) (get_without rows node path)
    ∙ either_goes (is_under node path) (goes nodes path) (get rows path)

-- ---- what comes

put_last : {X : Type 0} (later had : Option X) (b : Bool) (x : X) → option_or later (cond b (Some x) had) ≡ option_or (option_or later (if b then Some x else None)) had
put_last None had true x = refl
put_last None had false x = refl
put_last (Some y) had b x = refl

pub get_with : (rows : Rows) (new : List (List PathStep × Value)) (path : List PathStep) → get (with_entries rows new) path ≡ option_or (last_at new path) (get rows path)
get_with rows [] path = refl
get_with rows (row ∷ new) path =
    get_with (insert rows row.0 row.1) new path
    ∙ ap (option_or (last_at new path)) (get-insert paths_total rows row.0 row.1 path)
    ∙ put_last (last_at new path) (get rows path) (eq_by_cmp path_cmp path row.0) row.1

-- ---- the whole

pub get_brought : (t : SchemaTree) (old base : Rows) (done : List Act) (path : List PathStep) → get (brought t old base done) path ≡ value_by t old base done path
get_brought t old base done path =
    let new = coming done in
    let stays = all_without (all_without base (gone done)) (ousted t new) in
    get_with (with_entries stays (held t old new)) new path
    ∙ ap (option_or (last_at new path)) (
    get_with stays (held t old new) path
    ∙ ap (option_or (last_at (held t old new) path)) (
    ap (λ (m : Rows). get m path) (sym (fold-append without_under base (gone done) (ousted t new)))
    ∙ get_all_without base (gone done ++ ousted t new) path))

-- what goes by one list and by another goes by both
pub moved_brought : (t : SchemaTree) (old base : Rows) (done : List Act) → moved base (moves_by t old done) ≡ brought t old base done
moved_brought t old base done =
    let new = coming done in
    ap (λ (m : Rows). with_entries (with_entries m (held t old new)) new) (fold-append without_under base (gone done) (ousted t new))

under_limit : (b : Bool) (r : Refusal) (made rows : Rows) → (if b then Err r else Ok made) ≡ Ok rows → made ≡ rows
under_limit true r made rows e = absurd (cc)
under_limit false r made rows e = cc

pub is_made : (o : Option Refusal) (made rows : Rows) → unless o (limited made) ≡ Ok rows → made ≡ rows
is_made (Some r) made rows e = absurd (cc)
is_made None made rows e = under_limit (nat_lt row_limit (len made)) (record { tag = ResourceDenied; path = [] }) made rows e

pub values_are : (t : SchemaTree) (old : Rows) (nodes : List EditNode) (d : DefaultOperation) (rows : Rows) (path : List PathStep) → edited_rows t old nodes d ≡ Ok rows → get rows path ≡ value_after t old nodes d path
values_are t old nodes d rows path e =
    let base = base_of d old in
    let done = acts nodes d in
    ap (λ (m : Rows). get m path) (sym (is_made (first_refusal t old done) (brought t old base done) rows e)) ∙ get_brought t old base done path
