-- How deep the JSON value of a configuration nests.
use Rattle.std.proofs.Common.{◌≡◌, ℕ, suc, ◌+◌, ◌*◌, ◌≤◌, max, ℤ, List, [], ◌∷◌, length, fold, Bool, true, false, Option, Some, None, Ordering, Less, Equal, Greater, nat_cmp, arith}
use Rattle.std.specs.Cmp.Lexicographic.{slice_cmp}
use Rattle.std.specs.Ordering.{match_ordering}
use Rattle.std.specs.FinMap.{entries, get}
use Rattle.serde_json.specs.Data.{Data, null, boolean, number, string, array, object, Items, no_items, item, Members, no_members, member, put, depth, items_depth, members_depth}
use Rattle.serde_json.specs.Find.{get_member}
use Rattle.serde_json.specs.Read.{max_depth}
use Rattle.nm_types.specs.Path.{PathStep, Choice, whole, keys, entry}
use Rattle.nm_types.specs.declared.value.Value.{Value}
use Rattle.nm_types.specs.declared.value.Value.TheVariants.{Int, Decimal, Text, Name, Bits, Empty, Present, Bool as Flag}
use Rattle.nm_schema_tree.specs.declared.node.Node.{Node}
use Rattle.nm_schema_tree.specs.Nodes.{SchemaTree, keys_at}
use Rattle.nm_path.specs.declared.place.Place.{Place}
use Rattle.nm_path.specs.declared.place.Place.TheVariants.{Top}
use Rattle.nm_path.specs.Spelling.{found_of, below, name_at}
use Rattle.nm_config.specs.Rows.{Rows}
use Rattle.nm_json.specs.Writing.{integer_data, value_data, narrow_at, member_name, members_in, items_in, key_members, append, in_last, step_data, put_steps, put_row, config_data}
use Rattle.nm_json.proofs.Rounds.{Have, all_there}

-- how deep a value nests, if it is there
abbrev pub depth_in : Option Data → ℕ
depth_in None = 0
depth_in (Some d) = depth d

put_depth_at : (o : Ordering) (k l : List ℕ) (d e : Data) (ms : Members) → members_depth (put k d ms) ≤ max (depth d) (members_depth ms)
    → members_depth (match_ordering o (member k d (member l e ms)) (member l d ms) (member l e (put k d ms))) ≤ max (depth d) (max (depth e) (members_depth ms))
put_depth_at Less k l d e ms h = omega arith
put_depth_at Equal k l d e ms h = omega arith
put_depth_at Greater k l d e ms h = omega (arith, h)

put_depth : (k : List ℕ) (d : Data) (ms : Members) → members_depth (put k d ms) ≤ max (depth d) (members_depth ms)
put_depth k d no_members = omega arith
put_depth k d (member l e ms) = put_depth_at (slice_cmp nat_cmp k l) k l d e ms (put_depth k d ms)

get_depth_at : (o : Ordering) (d : Data) (x : Option Data) (n : ℕ) → depth_in x ≤ n → depth_in (match_ordering o x (Some d) x) ≤ max (depth d) n
get_depth_at Less d x n h = omega (arith, h)
get_depth_at Equal d x n h = omega arith
get_depth_at Greater d x n h = omega (arith, h)

get_depth : (k : List ℕ) (ms : Members) → depth_in (get_member k ms) ≤ members_depth ms
get_depth k no_members = omega arith
get_depth k (member l d ms) = get_depth_at (slice_cmp nat_cmp k l) d (get_member k ms) (members_depth ms) (get_depth k ms)

integer_depth : (b : Bool) (z : ℤ) → depth (integer_data b z) ≤ 1
integer_depth true z = omega arith
integer_depth false z = omega arith

value_depth : (narrow : Bool) (v : Value) → depth (value_data narrow v) ≤ 1
value_depth narrow (Int z) = integer_depth _ z
value_depth narrow (Flag b) = omega arith
value_depth narrow Empty = omega arith
value_depth narrow Present = omega arith
value_depth narrow (Decimal z digits) = omega arith
value_depth narrow (Text text) = omega arith
value_depth narrow (Name text) = omega arith
value_depth narrow (Bits text) = omega arith

keys_depth : (nodes : List Node) (ks : List ℕ) (vs : List Value) (ms : Members) → members_depth (key_members nodes ks vs ms) ≤ max 1 (members_depth ms)
keys_depth nodes [] vs ms = omega arith
keys_depth nodes (k ∷ ks) [] ms = omega arith
keys_depth nodes (k ∷ ks) (v ∷ vs) ms =
    let d = value_data (narrow_at nodes (Some k)) v in
    let one = value_depth (narrow_at nodes (Some k)) v in
    let here = put_depth (name_at nodes k) d ms in
    let later = keys_depth nodes ks vs (put (name_at nodes k) d ms) in
    omega (arith, one, here, later)

append_depth : (ds : Items) (d : Data) → items_depth (append ds d) ≤ max (items_depth ds) (depth d)
append_depth no_items d = omega arith
append_depth (item e ds) d = let later = append_depth ds d in omega (arith, later)

items_in_depth : (o : Option Data) → suc (items_depth (items_in o)) ≤ max 1 (depth_in o)
items_in_depth None = omega arith
items_in_depth (Some (array ds)) = omega arith
items_in_depth (Some null) = omega arith
items_in_depth (Some (boolean b)) = omega arith
items_in_depth (Some (number n)) = omega arith
items_in_depth (Some (string s)) = omega arith
items_in_depth (Some (object ms)) = omega arith

members_in_depth : (o : Option Data) → suc (members_depth (members_in o)) ≤ max 1 (depth_in o)
members_in_depth None = omega arith
members_in_depth (Some (object ms)) = omega arith
members_in_depth (Some null) = omega arith
members_in_depth (Some (boolean b)) = omega arith
members_in_depth (Some (number n)) = omega arith
members_in_depth (Some (string s)) = omega arith
members_in_depth (Some (array ds)) = omega arith

-- what is put nests at most so deep
abbrev pub IsUpto : (Members → Members) → ℕ → Type 0
IsUpto f b = (ms : Members) → members_depth (f ms) ≤ max (members_depth ms) b

in_last_depth : (f : Members → Members) (b : ℕ) → IsUpto f b → (ds : Items) → items_depth (in_last f ds) ≤ max (items_depth ds) (suc b)
in_last_depth f b h no_items = omega arith
in_last_depth f b h (item d no_items) =
    let inner = members_in_depth (Some d) in
    let more = h (members_in (Some d)) in
    omega (arith, inner, more)
in_last_depth f b h (item d (item e ds)) = let later = in_last_depth f b h (item e ds) in omega (arith, later)

step_depth : (nodes : List Node) (at : Option ℕ) (c : Choice) (ss : List PathStep) (v : Value) (o : Option Data) (f : Members → Members) → IsUpto f (2 * length ss + 1) → depth (step_data nodes at c ss v o f) ≤ max (depth_in o) (2 * length ss + 3)
step_depth nodes at whole [] v o f h = let one = value_depth (narrow_at nodes at) v in omega (arith, one)
step_depth nodes at whole (s ∷ ss) v o f h =
    let inner = members_in_depth o in
    let more = h (members_in o) in
    omega (arith, inner, more)
step_depth nodes at (entry w) ss v o f h =
    let d = value_data (narrow_at nodes at) w in
    let one = value_depth (narrow_at nodes at) w in
    let inner = items_in_depth o in
    let more = append_depth (items_in o) d in
    omega (arith, one, inner, more)
step_depth nodes at (keys vs) [] v o f h =
    let ms = key_members nodes (keys_at nodes at) vs no_members in
    let one = keys_depth nodes (keys_at nodes at) vs no_members in
    let inner = items_in_depth o in
    let more = append_depth (items_in o) (object ms) in
    omega (arith, one, inner, more)
step_depth nodes at (keys vs) (s ∷ ss) v o f h =
    let inner = items_in_depth o in
    let more = in_last_depth f (2 * length (s ∷ ss) + 1) h (items_in o) in
    omega (arith, inner, more)

steps_depth : (t : SchemaTree) (q : List PathStep) (place : Place) (v : Value) → IsUpto (put_steps t place q v) (2 * length q + 1)
steps_depth t [] place v ms = omega arith
steps_depth t (s ∷ ss) place v ms =
    let at = found_of t.nodes place s.«module» s.name in
    let name = member_name place s in
    let o = get_member name ms in
    let d = step_data t.nodes at s.chosen ss v o (put_steps t (below at) ss v) in
    let inner = step_depth t.nodes at s.chosen ss v o (put_steps t (below at) ss v) (steps_depth t ss (below at) v) in
    let before = get_depth name ms in
    let more = put_depth name d ms in
    omega (arith, inner, before, more)

rows_depth : (t : SchemaTree) (rows : Rows) (es : List (List PathStep × Value)) (ms : Members) → ((path : List PathStep) (v : Value) → get rows path ≡ Some v → length path ≤ 62) → Have rows es → members_depth ms ≤ 125
    → members_depth (fold (put_row t) ms es) ≤ 125
unfolding put_row
rows_depth t rows [] ms short have h = h
rows_depth t rows (e ∷ es) ms short have h =
    let path = short e.0 e.1 have.0 in
    let one = steps_depth t e.0 Top e.1 ms in
    rows_depth t rows es (put_steps t Top e.0 e.1 ms) short have.1 (omega (arith, path, one, h))

pub depth_law : (t : SchemaTree) (rows : Rows) → ((path : List PathStep) (v : Value) → get rows path ≡ Some v → length path ≤ 62) → depth (config_data t rows) ≤ max_depth
unfolding config_data
depth_law t rows short =
    let all = rows_depth t rows (entries rows) no_members short (all_there rows) (omega arith) in
    omega (arith, all)
