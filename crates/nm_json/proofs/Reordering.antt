-- What is found in a JSON value whose arrays are in another order.
use Rattle.std.proofs.Common.{◌≡◌, ℕ, List, [], ◌∷◌, ◌++◌, map, length, Bool, true, false, ◌==◌, ◌&&◌, if◌then◌else◌, slice_get, Option, Some, None, is_some, Result, refl, ap, ◌∙◌, nat_cmp}
use Rattle.std.specs.List.{after_first}
use Rattle.std.specs.Cmp.Lexicographic.{slice_cmp}
use Rattle.std.specs.Ordering.{match_ordering}
use Rattle.std.specs.declared.cmp.Ordering.{Ordering}
use Rattle.std.specs.declared.cmp.Ordering.TheVariants.{Less, Equal, Greater}
use Rattle.serde_json.specs.Data.{Data, array, Items, no_items, item, Members}
use Rattle.serde_json.specs.Find.{get_member}
use Rattle.nm_types.specs.LeafType.{Kind, integer, decimal, boolean, string, enumeration, bits, empty, TypeOfLeaf}
use Rattle.nm_types.specs.Path.{PathStep}
use Rattle.nm_types.specs.declared.value.Value.{Value}
use Rattle.nm_types.specs.declared.value.Value.TheVariants.{Present}
use Rattle.nm_schema_tree.specs.declared.node.Node.{Node}
use Rattle.nm_schema_tree.specs.Nodes.{SchemaTree, type_of}
use Rattle.nm_json.specs.declared.fault.JsonKind.{JsonKind}
use Rattle.nm_json.specs.declared.fault.Fault.{Fault}
use Rattle.nm_json.specs.Values.{null_value, empty_value, is_narrow, number_value, text_value, value_of_kind}
use Rattle.nm_json.specs.Findings.{Finding, row, Spot, bare, has_colon, is_colon, is_twice, named_found, node_named, or_fault, typed_value, key_value, key_from, key_read, faults_of, values_of, entry_path, entry_found, leaf_found, value_found, presence_found, Wanted, ignored, container, leaf, leaf_list, list, leaf_item, list_item, wanted, found, items_found, members_found, whole_found}
use Rattle.nm_json.specs.Laws.{Reordered, ReorderedItems, ReorderedMembers, same, in_array, in_object, as_before, neighbours, within, further, no_more, another}
use Rattle.nm_json.proofs.Shuffled as lists
use Rattle.nm_json.proofs.Shuffled.{Shuffled}

-- ---- values of leafs

null_same : {d e : Data} → Reordered d e → null_value d ≡ null_value e
null_same same = refl
null_same (in_array r) = refl
null_same (in_object r) = refl

-- whether an array is one null
abbrev only : Items → Result Value JsonKind
only ds = empty_value (array ds)

two_only : (d e : Data) (ds : Items) → only (item d (item e ds)) ≡ only (item e (item d ds))
two_only d e ds = refl

-- no items stay no items
abbrev count : Items → Bool
count no_items = true
count (item d ds) = false

count_same : {ds es : Items} → ReorderedItems ds es → count ds ≡ count es
count_same as_before = refl
count_same neighbours = refl
count_same (within r s) = refl
count_same (further es r s) = count_same r ∙ count_same s

one_same : (d e : Data) (ds es : Items) → null_value d ≡ null_value e → count ds ≡ count es → only (item d ds) ≡ only (item e es)
one_same d e no_items no_items n c = n
one_same d e no_items (item f es) n c = absurd cc
one_same d e (item f ds) no_items n c = absurd cc
one_same d e (item f ds) (item g es) n c = refl

only_same : {ds es : Items} → ReorderedItems ds es → only ds ≡ only es
only_same as_before = refl
only_same neighbours = refl
only_same (within {d} {e} {ds} {es} r s) = one_same d e ds es (null_same r) (count_same s)
only_same (further es r s) = only_same r ∙ only_same s

empty_same : {d e : Data} → Reordered d e → empty_value d ≡ empty_value e
empty_same same = refl
empty_same (in_array r) = only_same r
empty_same (in_object r) = refl

narrow_same : (t : TypeOfLeaf) (b : Bool) {d e : Data} → Reordered d e → (if b then number_value t d else text_value t d) ≡ (if b then number_value t e else text_value t e)
narrow_same t b same = refl
narrow_same t b (in_array r) = refl
narrow_same t b (in_object r) = refl

text_same : (t : TypeOfLeaf) {d e : Data} → Reordered d e → text_value t d ≡ text_value t e
text_same t same = refl
text_same t (in_array r) = refl
text_same t (in_object r) = refl

flag_same : (t : TypeOfLeaf) {d e : Data} → Reordered d e → value_of_kind t boolean d ≡ value_of_kind t boolean e
unfolding value_of_kind
flag_same t same = refl
flag_same t (in_array r) = refl
flag_same t (in_object r) = refl

kind_same : (t : TypeOfLeaf) (k : Kind) {d e : Data} → Reordered d e → value_of_kind t k d ≡ value_of_kind t k e
unfolding value_of_kind
kind_same t (integer low high) r = narrow_same t (is_narrow high) r
kind_same t (decimal digits) r = text_same t r
kind_same t boolean r = flag_same t r
kind_same t string r = text_same t r
kind_same t (enumeration names) r = text_same t r
kind_same t (bits all) r = text_same t r
kind_same t empty r = empty_same r

-- ---- members

-- two members that aren't there, or are the same reordered
abbrev pub AreReordered : Option Data → Option Data → Type 0
AreReordered None None = Unit {0}
AreReordered (Some d) (Some e) = Reordered d e
AreReordered _ _ = ⊥

chosen : (o : Ordering) (d e : Data) (x y : Option Data) → Reordered d e → AreReordered x y → AreReordered (match_ordering o x (Some d) x) (match_ordering o y (Some e) y)
chosen Less d e x y r s = s
chosen Equal d e x y r s = r
chosen Greater d e x y r s = s

member_same : (name : List ℕ) {ms ns : Members} → ReorderedMembers ms ns → AreReordered (get_member name ms) (get_member name ns)
member_same name no_more = tt
member_same name (another {k} {d} {e} {ms} {ns} r s) = chosen (slice_cmp nat_cmp name k) d e (get_member name ms) (get_member name ns) r (member_same name s)

there : (x y : Option Data) → AreReordered x y → is_some x ≡ is_some y
there None None r = refl
there (Some d) (Some e) r = refl
there None (Some e) r = absurd r
there (Some d) None r = absurd r

twice_same : (within : Option ℕ) (name : List ℕ) {ms ns : Members} → ReorderedMembers ms ns → is_twice within name ms ≡ is_twice within name ns
unfolding is_twice
twice_same None name r = refl
twice_same (Some i) name r = ap (λ b. has_colon name && b) (there _ _ (member_same (after_first is_colon name) r))

typed_same : (t : Option TypeOfLeaf) (d e : Data) → Reordered d e → typed_value t d ≡ typed_value t e
typed_same None d e r = refl
typed_same (Some t) d e r = kind_same t t.kind r

key_same : (t : Option TypeOfLeaf) (x y u v : Option Data) → AreReordered x y → AreReordered u v → key_value t x u ≡ key_value t y v
key_same t None None None None r s = refl
key_same t (Some d) (Some e) None None r s = typed_same t d e r
key_same t None None (Some d) (Some e) r s = typed_same t d e s
key_same t (Some d) (Some e) (Some f) (Some g) r s = refl
key_same t None (Some e) u v r s = absurd r
key_same t (Some d) None u v r s = absurd r
key_same t x y None (Some e) r s = absurd s
key_same t x y (Some d) None r s = absurd s

from_same : (path : List PathStep) (n : Option Node) {ms ns : Members} → ReorderedMembers ms ns → key_from path ms n ≡ key_from path ns n
from_same path None r = refl
from_same path (Some n) r = ap (or_fault path n.name) (key_same (type_of n.kind) _ _ _ _ (member_same n.name r) (member_same (n.«module» ++ 58 ∷ n.name) r))

read_same : (t : SchemaTree) (path : List PathStep) (k : ℕ) {ms ns : Members} → ReorderedMembers ms ns → key_read t path ms k ≡ key_read t path ns k
unfolding key_read
read_same t path k r = from_same path (slice_get t.nodes k) r

reads_same : (t : SchemaTree) (path : List PathStep) (ks : List ℕ) {ms ns : Members} → ReorderedMembers ms ns → map (key_read t path ms) ks ≡ map (key_read t path ns) ks
reads_same t path [] r = refl
reads_same t path (k ∷ ks) r =
    let one = read_same t path k r in
    let others = reads_same t path ks r in
    λ i. one i ∷ others i

-- ---- findings

entry_by : (b : Bool) (path : List PathStep) {xs ys : List Finding} → Shuffled xs ys → Shuffled (if b then row path Present ∷ xs else []) (if b then row path Present ∷ ys else [])
entry_by true path s = lists.behind s
entry_by false path s = lists.as_before

entry_same : (s : Spot) (rs : List (Result Value Fault)) {xs ys : List Finding} → Shuffled xs ys → Shuffled (entry_found s rs xs) (entry_found s rs ys)
entry_same s rs r = lists.after_all (faults_of rs) (entry_by (length (values_of rs) == length rs) (entry_path s rs) r)

mutual
  pub found_shuffled : (t : SchemaTree) (w : Wanted) {d e : Data} → Reordered d e → Shuffled (found t w d) (found t w e)
  found_shuffled t w same = lists.as_before
  found_shuffled t ignored (in_array r) = lists.as_before
  found_shuffled t (container s presence) (in_array r) = lists.as_before
  found_shuffled t (leaf s leaf_type) (in_array r) = lists.equals (ap (leaf_found (bare s)) (kind_same leaf_type leaf_type.kind (in_array r)))
  found_shuffled t (leaf_list s leaf_type) (in_array r) = items_shuffled t (leaf_item s leaf_type) r
  found_shuffled t (list s ks) (in_array r) = items_shuffled t (list_item s ks) r
  found_shuffled t (leaf_item s leaf_type) (in_array r) = lists.equals (ap (value_found s) (kind_same leaf_type leaf_type.kind (in_array r)))
  found_shuffled t (list_item s ks) (in_array r) = lists.as_before
  found_shuffled t ignored (in_object r) = lists.as_before
  found_shuffled t (container s presence) (in_object {ms} {ns} r) = lists.after_all (presence_found s presence) (members_shuffled t (bare s) (Some s.number) ms ns r r)
  found_shuffled t (leaf s leaf_type) (in_object r) = lists.equals (ap (leaf_found (bare s)) (kind_same leaf_type leaf_type.kind (in_object r)))
  found_shuffled t (leaf_list s leaf_type) (in_object r) = lists.as_before
  found_shuffled t (list s ks) (in_object r) = lists.as_before
  found_shuffled t (leaf_item s leaf_type) (in_object r) = lists.equals (ap (value_found s) (kind_same leaf_type leaf_type.kind (in_object r)))
  found_shuffled t (list_item s ks) (in_object {ms} {ns} r) =
      let rs = map (key_read t (bare s) ms) ks in
      let inner : List (Result Value Fault) → List Finding = λ us. entry_found s us (members_found t (entry_path s us) (Some s.number) ns ns) in
      lists.further (inner rs) (entry_same s rs (members_shuffled t (entry_path s rs) (Some s.number) ms ns r r)) (lists.equals (ap inner (reads_same t (bare s) ks r)))

  pub items_shuffled : (t : SchemaTree) (w : Wanted) {ds es : Items} → ReorderedItems ds es → Shuffled (items_found t w ds) (items_found t w es)
  items_shuffled t w as_before = lists.as_before
  items_shuffled t w (neighbours {d} {e} {ds}) = lists.parts (found t w d) (found t w e) (items_found t w ds)
  items_shuffled t w (within r s) = lists.joined (found_shuffled t w r) (items_shuffled t w s)
  items_shuffled t w (further es r s) = lists.further (items_found t w es) (items_shuffled t w r) (items_shuffled t w s)

  pub members_shuffled : (t : SchemaTree) (above : List PathStep) (at : Option ℕ) (all others : Members) {ms ns : Members} → ReorderedMembers all others → ReorderedMembers ms ns
      → Shuffled (members_found t above at all ms) (members_found t above at others ns)
  members_shuffled t above at all others whole no_more = lists.as_before
  members_shuffled t above at all others whole (another {k} r s) =
      lists.joined (lists.joined (lists.equals (ap (λ b. named_found t above b k (node_named t at k)) (twice_same at k whole))) (found_shuffled t (wanted t above (node_named t at k)) r))
      (members_shuffled t above at all others whole s)

-- what is found in a value in another order is the same in another order
pub whole_shuffled : (t : SchemaTree) {d e : Data} → Reordered d e → Shuffled (whole_found t d) (whole_found t e)
whole_shuffled t same = lists.as_before
whole_shuffled t (in_array r) = lists.as_before
whole_shuffled t (in_object {ms} {ns} r) = members_shuffled t [] None ms ns r r
