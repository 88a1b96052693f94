-- When two configurations have the same at a node, and the same marks.
use Rattle.std.specs.Prelude.{◌≡◌, ◌↔◌, ℕ, List, [], ◌∷◌, Bool, true, false, cond, not, ◌&&◌, ◌||◌, is_some, Option, Some, None, refl}
use Rattle.std.proofs.Common.{inl, inr, sym, ◌∙◌, ap}
use Rattle.std.proofs.lemmas.Bool.{cases_Bool}
use Rattle.std.specs.List.{list_all, list_any}
use Rattle.std.specs.Ordering.{eq_by_cmp}
use Rattle.std.specs.FinMap.{get, contains_key, keys, contains_key-keys, get-retain_keys, same_map}
use Rattle.nm_types.specs.Path.{PathStep, path_cmp}
use Rattle.nm_types.specs.PathLaws.{paths_total, path_cmp-IsAntisymmetric, same_path_decides}
use Rattle.nm_types.specs.ValueLaws.{same_value_decides}
use Rattle.nm_types.specs.declared.value.Value.{Value}
use Rattle.nm_config.specs.Rows.{Rows}
use Rattle.nm_config.specs.Under.{is_under}
use Rattle.nm_schema_tree.specs.Nodes.{SchemaTree}
use Rattle.nm_path.specs.Spelling.{node_of}
use Rattle.nm_validate_rules.specs.Guards.{front}
use Rattle.nm_validate_rules.proofs.Among.{both}
use Rattle.nm_validate_rules.proofs.Placed.{both_true}
use Rattle.nm_content_place.specs.declared.place.YangNode.{YangNode}
use Rattle.nm_content_place.specs.Place.{is_key_at, row_of, node_at, path_found, found, overlaps, is_part, part, same_value, is_shared, has_part_of, same_at}
use Rattle.nm_content.specs.Mark.{mark_path, has_mark, mark_at, is_mark, has_marks_of, same_marks}
use Rattle.nm_content.specs.MarkLaws.{at_itself, at_is, alike}

-- ---- tests of all paths with rows

at_path : (p : List PathStep → Bool) (q k : List PathStep) (rest : Bool) → p k ≡ true → (rest ≡ true → p q ≡ true)
    → (eq_by_cmp path_cmp q k || rest) ≡ true → p q ≡ true
at_path p q k rest here there h = elim (cases_Bool (eq_by_cmp path_cmp q k)) [
  | inl same ↦ ap p ((same_path_decides q k _ refl).0 same) ∙ here
  | inr other ↦ there (sym (ap (λ b. b || rest) other) ∙ h)
]

all_at : (p : List PathStep → Bool) (q : List PathStep) (ks : List (List PathStep)) → list_all p ks ≡ true
    → list_any (eq_by_cmp path_cmp q) ks ≡ true → p q ≡ true
all_at p q [] h any = absurd (cc)
all_at p q (k ∷ ks) h any =
    let b = both (p k) (list_all p ks) h in
    at_path p q k (list_any (eq_by_cmp path_cmp q) ks) b.0 (all_at p q ks b.1) any

at_key : (p : List PathStep → Bool) (rows : Rows) (q : List PathStep) → list_all p (keys rows) ≡ true → contains_key rows q ≡ true → p q ≡ true
at_key p rows q h there = all_at p q (keys rows) h (sym (contains_key-keys rows q) ∙ there)

or_left : (a b : Bool) → a ≡ true → (a || b) ≡ true
or_left true b h = refl
or_left false b h = absurd (cc)

or_right : (a b : Bool) → b ≡ true → (a || b) ≡ true
or_right true b h = refl
or_right false b h = h

all_from : (p : List PathStep → Bool) (ks : List (List PathStep))
    → ((q : List PathStep) → list_any (eq_by_cmp path_cmp q) ks ≡ true → p q ≡ true) → list_all p ks ≡ true
all_from p [] h = refl
all_from p (k ∷ ks) h = both_true (p k) (list_all p ks)
    (h k (or_left (eq_by_cmp path_cmp k k) (list_any (eq_by_cmp path_cmp k) ks) ((same_path_decides k k _ refl).1 refl)))
    (all_from p ks (λ q any. h q (or_right (eq_by_cmp path_cmp q k) (list_any (eq_by_cmp path_cmp q) ks) any)))

from_keys : (p : List PathStep → Bool) (rows : Rows) → ((q : List PathStep) → contains_key rows q ≡ true → p q ≡ true) → list_all p (keys rows) ≡ true
from_keys p rows h = all_from p (keys rows) (λ q any. h q (contains_key-keys rows q ∙ any))

-- ---- the same at a node

values_same : (a b : Option Value) → same_value a b ≡ true → a ≡ b
values_same None None e = refl
values_same None (Some w) e = absurd (cc)
values_same (Some v) None e = absurd (cc)
values_same (Some v) (Some w) e = ap Some ((same_value_decides v w _ refl).0 e)

value_itself : (a : Option Value) → same_value a a ≡ true
value_itself None = refl
value_itself (Some v) = (same_value_decides v v _ refl).1 refl

shared_by : (under same : Bool) → under ≡ true → (not under || same) ≡ true → same ≡ true
shared_by true same u e = e
shared_by false same u e = absurd (cc)

or_none : {X : Type 0} (a b : Option X) → (is_some a ≡ true → a ≡ b) → (is_some b ≡ true → b ≡ a) → a ≡ b
or_none (Some x) b h k = h refl
or_none None (Some y) h k = sym (k refl)
or_none None None h k = refl

get-part : (rows : Rows) (node : YangNode) (q : List PathStep) → get (part rows node) q ≡ cond (is_part node q) (get rows q) None
get-part rows node q = get-retain_keys rows (is_part node) q (λ x t. ap (is_part node) (sym (path_cmp-IsAntisymmetric q x t)))

cond_same : {X : Type 0} (b : Bool) (a c : Option X) → (b ≡ true → a ≡ c) → cond b a None ≡ cond b c None
cond_same true a c h = h refl
cond_same false a c h = refl

cond_true : {X : Type 0} (b : Bool) (a : Option X) → b ≡ true → cond b a None ≡ a
cond_true true a h = refl
cond_true false a h = absurd (cc)

shared_if : (under same : Bool) → (under ≡ true → same ≡ true) → (not under || same) ≡ true
shared_if true same h = h refl
shared_if false same h = refl

get_same : (path : List PathStep) (one other : Rows) → has_part_of other one path ≡ true → (q : List PathStep) → is_under path q ≡ true
    → is_some (get one q) ≡ true → get one q ≡ get other q
get_same path one other h q u there =
    values_same (get one q) (get other q)
    (shared_by (is_under path q) (same_value (get one q) (get other q)) u (at_key (is_shared one other path) one q h there))

module _ (node : YangNode) where
  get_either : (one other : Rows) → has_part_of other one node.path ≡ true → has_part_of one other node.path ≡ true → get one node.row ≡ get other node.row
      → (q : List PathStep) (below here : Bool) → is_under node.path q ≡ below → eq_by_cmp path_cmp node.row q ≡ here → (below || here) ≡ true → get one q ≡ get other q
  get_either one other h k s q true here u e x = or_none (get one q) (get other q) (get_same node.path one other h q u) (get_same node.path other one k q u)
  get_either one other h k s q false true u e x = let is = (same_path_decides node.row q _ refl).0 e in ap (get one) (sym is) ∙ s ∙ ap (get other) is
  get_either one other h k s q false false u e x = absurd (cc)

  part_same : (one other : Rows) → has_part_of other one node.path ≡ true → has_part_of one other node.path ≡ true → get one node.row ≡ get other node.row
      → part one node ≡ part other node
  part_same one other h k s = same_map paths_total path_cmp-IsAntisymmetric _ _ (λ q.
      get-part one node q
      ∙ cond_same (is_part node q) (get one q) (get other q) (λ x. get_either one other h k s q (is_under node.path q) (eq_by_cmp path_cmp node.row q) refl refl x)
      ∙ sym (get-part other node q))

  at_part : (one other : Rows) → part one node ≡ part other node → (q : List PathStep) → is_part node q ≡ true → get one q ≡ get other q
  at_part one other e q x =
      sym (cond_true (is_part node q) (get one q) x) ∙ sym (get-part one node q) ∙ ap (λ (m : Rows). get m q) e
      ∙ get-part other node q ∙ cond_true (is_part node q) (get other q) x

  part_of : (one other : Rows) → part one node ≡ part other node → has_part_of other one node.path ≡ true
  part_of one other e = from_keys (is_shared one other node.path) one (λ q there.
      shared_if (is_under node.path q) (same_value (get one q) (get other q)) (λ u.
      let same = at_part one other e q (or_left (is_under node.path q) (eq_by_cmp path_cmp node.row q) u) in
      ap (same_value (get one q)) (sym same) ∙ value_itself (get one q)))

  row_same : (one other : Rows) → part one node ≡ part other node → same_value (get one node.row) (get other node.row) ≡ true
  row_same one other e =
      let same = at_part one other e node.row (or_right (is_under node.path node.row) (eq_by_cmp path_cmp node.row node.row) ((same_path_decides node.row node.row _ refl).1 refl)) in
      ap (same_value (get one node.row)) (sym same) ∙ value_itself (get one node.row)

-- a node is the same in two configurations exactly where its rows are
pub parts_tell : (one other : Rows) (node : YangNode) → (same_at one other node ≡ true) ↔ (part one node ≡ part other node)
parts_tell one other node = (
  λ h.
      let b = both (has_part_of other one node.path && has_part_of one other node.path) (same_value (get one node.row) (get other node.row)) h in
      let d = both (has_part_of other one node.path) (has_part_of one other node.path) b.0 in
      part_same node one other d.0 d.1 (values_same (get one node.row) (get other node.row) b.1),
  λ e. both_true (has_part_of other one node.path && has_part_of one other node.path) (same_value (get one node.row) (get other node.row))
      (both_true (has_part_of other one node.path) (has_part_of one other node.path) (part_of node one other e) (part_of node other one (sym e)))
      (row_same node one other e),
)

-- the row that a node exists by is the same in configurations that have equal parts there
pub rows_kept : (one other : Rows) (node : YangNode) → part one node ≡ part other node → get one node.row ≡ get other node.row
rows_kept one other node e = values_same (get one node.row) (get other node.row) (row_same node one other e)

some_same : {X : Type 0} {a b : X} → ◌≡◌ {A = Option X} (Some a) (Some b) → a ≡ b
some_same e = cc

-- a key leaf exists by its entry's own row
key_row : (t : SchemaTree) (path : Option (List PathStep)) (node : YangNode) → node_at t path ≡ Some node → is_key_at t (node_of t node.path) ≡ true → node.row ≡ front node.path
key_row t None node e key = absurd (cc)
key_row t (Some path) node e key =
    let is : record { path = path; row = row_of t path } ≡ node = some_same e in
    sym (ap (λ (n : YangNode). n.row) is)
    ∙ ap (λ (n : YangNode). row_of t n.path) is
    ∙ ap (λ (b : Bool). cond b (front node.path) node.path) key

-- configurations with equal parts at a key leaf have its entry alike: both have it, or both lack it
pub entry_kept : (t : SchemaTree) (text : List ℕ) (node : YangNode) (one other : Rows) → found t text ≡ Some node → is_key_at t (node_of t node.path) ≡ true
    → part one node ≡ part other node → get one (front node.path) ≡ get other (front node.path)
entry_kept t text node one other e key same =
    let row = key_row t (path_found t text) node e key in
    ap (get one) (sym row) ∙ rows_kept one other node same ∙ ap (get other) row

-- ---- the same marks

mark_has : (one other : Rows) → has_marks_of other one ≡ true → (n : ℕ) → has_mark one n ≡ true → has_mark other n ≡ true
mark_has one other h n there =
    shared_by (is_mark (mark_path n)) (contains_key other (mark_path n)) (ap is_some (at_itself n))
    (at_key (λ q. not (is_mark q) || contains_key other q) one (mark_path n) h there)

mark_known : (one other : Rows) (q : List PathStep) (o : Option ℕ) → mark_at q ≡ o
    → ((n : ℕ) → has_mark one n ≡ true → has_mark other n ≡ true) → contains_key one q ≡ true → is_some o ≡ true
    → contains_key other q ≡ true
mark_known one other q None is h there m = absurd (cc)
mark_known one other q (Some n) is h there m = let e = at_is q n is in ap (contains_key other) e ∙ h n (ap (contains_key one) (sym e) ∙ there)

marks_known : (one other : Rows) → ((n : ℕ) → has_mark one n ≡ true → has_mark other n ≡ true) → has_marks_of other one ≡ true
marks_known one other h = from_keys (λ q. not (is_mark q) || contains_key other q) one (λ q there.
    shared_if (is_mark q) (contains_key other q) (mark_known one other q (mark_at q) refl h there))

-- two configurations have the same marks exactly where each number is marked in both or in neither
pub marks_tell : (one other : Rows) → (same_marks one other ≡ true) ↔ ((n : ℕ) → has_mark one n ≡ has_mark other n)
marks_tell one other = (
  λ h n. let b = both (has_marks_of other one) (has_marks_of one other) h in alike (has_mark one n) (has_mark other n)
      (mark_has one other b.0 n) (mark_has other one b.1 n),
  λ e. both_true (has_marks_of other one) (has_marks_of one other) (marks_known one other (λ n there. sym (e n) ∙ there))
      (marks_known other one (λ n there. e n ∙ there)),
)

-- ---- nodes that overlap

or_turned : (a b : Bool) → (a || b) ≡ (b || a)
or_turned true true = refl
or_turned true false = refl
or_turned false true = refl
or_turned false false = refl

-- two nodes overlap in either order
pub overlaps_turned : (one other : YangNode) → overlaps one other ≡ overlaps other one
overlaps_turned one other = or_turned (is_under one.path other.path) (is_under other.path one.path)
