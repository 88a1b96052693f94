-- What the rows that an edit touches are, path by path.
use Rattle.std.proofs.Common.{◌≡◌, ◌↔◌, Bool, true, false, cond, not, ◌&&◌, List, [], ◌∷◌, Option, Some, None, Result, Ok, Err, T, if◌then◌else◌, refl, sym, ap, subst, ◌∙◌, map as each}
use Rattle.std.specs.Ordering.{is_lt, eq_by_cmp}
use Rattle.std.specs.FinMap.{get, find, entries, entries_sorted, get-entries, is_sorted}
use Rattle.std.specs.FinMap.Entries.{below_all}
use Rattle.nm_types.specs.Path.{path_cmp}
use Rattle.nm_types.specs.Value.{is_same_value}
use Rattle.nm_types.specs.declared.value.Value.{Value}
use Rattle.nm_proto.specs.Content.{Refusal}
use Rattle.nm_proto.specs.declared.message.DefaultOperation.{DefaultOperation}
use Rattle.nm_proto.specs.declared.message.RowAccess.{RowAccess}
use Rattle.nm_proto.specs.declared.message.RowAccess.TheVariants.{Update}
use Rattle.nm_schema_tree.specs.Nodes.{SchemaTree}
use Rattle.nm_config.specs.Rows.{Rows}
use Rattle.nm_overlay.specs.Differences.{Changes, differs, differences}
use Rattle.nm_overlay.specs.Places.{Pair}
use Rattle.nm_overlay.proofs.Order.{Place, one}
use Rattle.nm_overlay.proofs.Changed.{get-differences}
use Rattle.nm_edit.specs.declared.edit.EditNode.{EditNode}
use Rattle.nm_edit.specs.Edited.{edited_rows}
use Rattle.nm_edit.specs.Changed.{changed, in_order}
use Rattle.nm_touched.specs.Touched.{Touch, touch_between, Ascends, access_by, touch, touched_by, touched}

-- ---- what is found of a path

abbrev as_touch : Option Value → Option (Option Value) → Option RowAccess
as_touch before None = None
as_touch before (Some after) = Some (access_by before after)

find_touch : (old : Rows) (es : List Pair) (q : Place) → find path_cmp q (each (touch old) es) ≡ as_touch (get old q) (find path_cmp q es)
find_touch old [] q = refl
find_touch old (e ∷ es) q = by (eq_by_cmp path_cmp q e.0) refl (find_touch old es q)
  where
    by : (b : Bool) → eq_by_cmp path_cmp q e.0 ≡ b → find path_cmp q (each (touch old) es) ≡ as_touch (get old q) (find path_cmp q es)
        → cond b (Some (access_by (get old e.0) e.1)) (find path_cmp q (each (touch old) es)) ≡ as_touch (get old q) (cond b (Some e.1) (find path_cmp q es))
    by true is rest = ap (λ (x : Place). Some (access_by (get old x) e.1)) (sym (one q e.0 is))
    by false is rest = rest

between : (before after : Option Value) → as_touch before (cond (differs before after) (Some after) None) ≡ touch_between before after
between None None = refl
between None (Some w) = refl
between (Some v) None = refl
between (Some v) (Some w) = by (is_same_value v w)
  where
    by : (b : Bool) → as_touch (Some v) (cond (not b) (Some (Some w)) None) ≡ (if b then None else Some Update)
    by true = refl
    by false = refl

found : (old made : Rows) (q : Place) → find path_cmp q (each (touch old) (entries (differences old made))) ≡ touch_between (get old q) (get made q)
found old made q =
    find_touch old (entries (differences old made)) q
    ∙ ap (as_touch (get old q)) (sym (get-entries (differences old made) q) ∙ get-differences old made q)
    ∙ between (get old q) (get made q)

pub exact : (t : SchemaTree) (old : Rows) (nodes : List EditNode) (d : DefaultOperation) (made : Rows) (touches : List Touch) (q : Place)
    → edited_rows t old nodes d ≡ Ok made → touched t old nodes d ≡ Ok touches → find path_cmp q touches ≡ touch_between (get old q) (get made q)
exact t old nodes d made touches q makes tells =
    let all : Ok (each (touch old) (entries (differences old made))) ≡ Ok touches = sym (ap (λ (r : Result Rows Refusal). touched_by old (in_order (changed old r))) makes) ∙ tells in
    let is : each (touch old) (entries (differences old made)) ≡ touches = cc in
    ap (find path_cmp q) (sym is) ∙ found old made q

-- ---- their order

below_same : (old : Rows) (x : Place) (es : List Pair) → below_all path_cmp x (each (touch old) es) ≡ below_all path_cmp x es
below_same old x [] = refl
below_same old x (e ∷ es) = ap (λ b. is_lt (path_cmp x e.0) && b) (below_same old x es)

sorted_same : (old : Rows) (es : List Pair) → is_sorted path_cmp (each (touch old) es) ≡ is_sorted path_cmp es
sorted_same old [] = refl
sorted_same old (e ∷ es) = λ i. below_same old e.0 es i && sorted_same old es i

in_path_order : (old : Rows) (given : Result Changes Refusal) (touches : List Touch) → touched_by old (in_order given) ≡ Ok touches → Ascends touches
in_path_order old (Ok changes) touches e =
    let is : each (touch old) (entries changes) ≡ touches = cc in
    subst Ascends is (subst T (sym (sorted_same old (entries changes))) (entries_sorted changes))
in_path_order old (Err refusal) touches e = absurd (cc)

pub ascends : (t : SchemaTree) (old : Rows) (nodes : List EditNode) (d : DefaultOperation) (touches : List Touch) → touched t old nodes d ≡ Ok touches → Ascends touches
ascends t old nodes d touches e = in_path_order old (changed old (edited_rows t old nodes d)) touches e

-- ---- refusals

pub refused : (t : SchemaTree) (old : Rows) (nodes : List EditNode) (d : DefaultOperation) (refusal : Refusal)
    → touched t old nodes d ≡ Err refusal ↔ (edited_rows t old nodes d ≡ Err refusal)
refused t old nodes d refusal = by (edited_rows t old nodes d)
  where
    by : (given : Result Rows Refusal) → touched_by old (in_order (changed old given)) ≡ Err refusal ↔ (given ≡ Err refusal)
    by (Ok made) = ((λ e. absurd (cc)), (λ e. absurd (cc)))
    by (Err other) = ((λ e. let is : other ≡ refusal = cc in ap Err is), (λ e. let is : other ≡ refusal = cc in ap Err is))
