-- Rows that are written as JSON by one pass over them: what the parts of the pass write (for private clauses).
use Rattle.std.specs.Prelude.{◌≡◌, ℕ, suc, List, [], ◌∷◌, ◌++◌, drop, Bool, true, false, not, cond, ◌&&◌, Option, Some, None}
use Rattle.std.specs.List.{list_all}
use Rattle.std.specs.Str.{bytes_eq}
use Rattle.std.specs.Ordering.{is_lt, nat_cmp}
use Rattle.std.specs.Cmp.Lexicographic.{slice_cmp}
use Rattle.json.specs.Token.{Token}
use Rattle.json.specs.Tree.{json_tokens}
use Rattle.serde_json.specs.Data.{Data, null, object, Items, no_items, item, Members, no_members, member}
use Rattle.serde_json.specs.Written.{outline}
use Rattle.nm_types.specs.Path.{PathStep, Choice, whole, keys, entry}
use Rattle.nm_types.specs.declared.value.Value.{Value}
use Rattle.nm_schema_tree.specs.declared.node.Node.{Node}
use Rattle.nm_schema_tree.specs.Nodes.{SchemaTree, keys_at}
use Rattle.nm_path.specs.declared.place.Place.{Place}
use Rattle.nm_path.specs.Spelling.{found_of, below, name_at}
use Rattle.nm_json.specs.Writing.{value_data, narrow_at, key_members, append, in_last, step_data, put_steps}

-- ---- tokens

-- the tokens of a JSON value
abbrev pub tokens_of : Data → List Token
tokens_of d = json_tokens (outline d)

-- the tokens of members, without the end of their object
abbrev pub front : Members → List Token
front no_members = []
front (member k d ms) = Token.key k ∷ (tokens_of d ++ front ms)

-- the tokens of items, without the end of their array
abbrev pub items_front : Items → List Token
items_front no_items = []
items_front (item d ds) = tokens_of d ++ items_front ds

-- ---- rows

-- the steps that are left of a row's path, and its value
abbrev pub Rest : Type 0
Rest = List PathStep × Value

-- what is left of a row without the first d steps
abbrev pub rest_at : ℕ → Rest → Rest
rest_at d r = (drop d r.0, r.1)

-- rows without so many steps at the front of their paths
abbrev pub rests : ℕ → List Rest → List Rest
rests d [] = []
rests d (r ∷ rs) = rest_at d r ∷ rests d rs

-- how many elements at the front of a list pass a test
abbrev pub front_length : (Rest → Bool) → List Rest → ℕ
front_length test [] = 0
front_length test (r ∷ rs) = cond (test r) (suc (front_length test rs)) 0

-- the members of an object once the rest of a row is put into it
abbrev pub put_rest : SchemaTree → Place → Members → Rest → Members
put_rest t place ms r = put_steps t place r.0 r.1 ms

-- the members of an object once rows are put into it
abbrev pub members_of : SchemaTree → Place → Members → List Rest → Members
members_of t place ms [] = ms
members_of t place ms (r ∷ rs) = members_of t place (put_rest t place ms r) rs

-- ---- rows of one node

-- a step chooses no entry
abbrev pub is_whole : Choice → Bool
is_whole whole = true
is_whole (keys vs) = false
is_whole (entry v) = false

-- no step is left
abbrev pub is_end : List PathStep → Bool
is_end [] = true
is_end (s ∷ ss) = false

-- both choose an entry, or neither does and the other goes on
abbrev pub goes_alike : Choice → Choice → List PathStep → Bool
goes_alike one other ss = cond (is_whole one) (is_whole other && not (is_end ss)) (not (is_whole other))

-- steps lead to or below the node of a step
abbrev pub leads_alike : PathStep → List PathStep → Bool
leads_alike s [] = false
leads_alike s (u ∷ us) = bytes_eq u.name s.name && (bytes_eq u.«module» s.«module» && goes_alike s.chosen u.chosen us)

-- a row leads to or below the node of a step
abbrev pub is_alike : PathStep → Rest → Bool
is_alike s r = leads_alike s r.0

-- each of the rows leads to or below the node of the first step
abbrev pub alike_to : List PathStep → List Rest → Bool
alike_to [] rs = false
alike_to (s ∷ ss) rs = list_all (is_alike s) rs

-- rows lead to or below the node of the first of them
abbrev pub are_alike : List Rest → Bool
are_alike [] = false
are_alike (r ∷ rs) = alike_to r.0 rs

-- the JSON value of a step once a row is put there
abbrev pub after : SchemaTree → Place → Option Data → List PathStep → Value → Data
after t place before [] v = null
after t place before (s ∷ ss) v =
    step_data t.nodes (found_of t.nodes place s.«module» s.name) s.chosen ss v before (put_steps t (below (found_of t.nodes place s.«module» s.name)) ss v)

-- the JSON value of a step once rows more are put there
abbrev pub data_of : SchemaTree → Place → Data → List Rest → Data
data_of t place d [] = d
data_of t place d (r ∷ rs) = data_of t place (after t place (Some d) r.0 r.1) rs

-- the JSON value of the node of some rows
abbrev pub group_data : SchemaTree → Place → List Rest → Data
group_data t place [] = null
group_data t place (r ∷ rs) = data_of t place (after t place None r.0 r.1) rs

-- ---- containers

-- the steps behind the first one
abbrev pub behind_first : List PathStep → List PathStep
behind_first [] = []
behind_first (s ∷ ss) = ss

-- the rows without their first steps
abbrev pub inner_rests : List Rest → List Rest
inner_rests [] = []
inner_rests (r ∷ rs) = (behind_first r.0, r.1) ∷ inner_rests rs

-- an object into which rows are put by their steps behind the first
abbrev pub object_of : SchemaTree → Option ℕ → Members → List Rest → Data
object_of t at ms rs = object (members_of t (below at) ms (inner_rests rs))

-- the JSON value of a node with its own value: that value where nothing leads below, and else an object into which all is put
abbrev pub leaf_or_object : SchemaTree → Option ℕ → List PathStep → Value → List Rest → Data
leaf_or_object t at (s ∷ []) v [] = value_data (narrow_at t.nodes at) v
leaf_or_object t at ss v rs = object_of t at no_members ((ss, v) ∷ rs)

-- the value of a leaf, or a container
abbrev pub whole_data : SchemaTree → Option ℕ → List Rest → Data
whole_data t at [] = null
whole_data t at (r ∷ rs) = leaf_or_object t at r.0 r.1 rs

-- ---- lists

-- what is chosen is an entry of a list by its keys, and steps lead on below it
abbrev pub goes_below : Choice → List PathStep → Bool
goes_below whole ss = false
goes_below (keys vs) ss = not (is_end ss)
goes_below (entry v) ss = false

-- steps lead below an entry of a list
abbrev pub leads_below : List PathStep → Bool
leads_below [] = false
leads_below (s ∷ ss) = goes_below s.chosen ss

-- what is left of a row leads below an entry of a list
abbrev pub is_below : Rest → Bool
is_below r = leads_below r.0

-- the items of an array once a row is put there
abbrev pub chosen_after : SchemaTree → Option ℕ → Items → Choice → List PathStep → Value → Items
chosen_after t at ds whole ss v = ds
chosen_after t at ds (entry w) ss v = append ds (value_data (narrow_at t.nodes at) w)
chosen_after t at ds (keys ks) [] v = append ds (object (key_members t.nodes (keys_at t.nodes at) ks no_members))
chosen_after t at ds (keys ks) (s ∷ ss) v = in_last (put_steps t (below at) (s ∷ ss) v) ds

-- the items of an array once a row with its steps is put there
abbrev pub item_after : SchemaTree → Option ℕ → Items → List PathStep → Value → Items
item_after t at ds [] v = ds
item_after t at ds (s ∷ ss) v = chosen_after t at ds s.chosen ss v

-- the items of an array once rows are put there, one after another
abbrev pub items_after : SchemaTree → Option ℕ → Items → List Rest → Items
items_after t at ds [] = ds
items_after t at ds (r ∷ rs) = items_after t at (item_after t at ds r.0 r.1) rs

-- the tokens of one item are written: that of a row and those below its entry
pub record WritesItem (t : SchemaTree) (at : Option ℕ) (ss : List PathStep) (inner : List Rest) (old new : List Token) : Type 0 where
  pub data_written : Data
  pub text : new ≡ old ++ tokens_of data_written
  pub one : (v : Value) (ds : Items) → items_after t at ds ((ss, v) ∷ inner) ≡ append ds data_written

-- ---- keys

-- a name stands after another, if there is one
abbrev pub is_later : Option (List ℕ) → List ℕ → Bool
is_later None name = true
is_later (Some last) name = is_lt (slice_cmp nat_cmp last name)

-- a name stands before those of all keys
abbrev pub is_before_all : List Node → List ℕ → List ℕ → Bool
is_before_all nodes name [] = true
is_before_all nodes name (k ∷ ks) = is_lt (slice_cmp nat_cmp name (name_at nodes k)) && is_before_all nodes name ks

-- keys stand in the order of their names
abbrev pub ascends : List Node → List ℕ → Bool
ascends nodes [] = true
ascends nodes (k ∷ ks) = is_before_all nodes (name_at nodes k) ks && ascends nodes ks

-- the members that are keys, in their order
abbrev pub held : List Node → List ℕ → List Value → Members
held nodes [] vs = no_members
held nodes (k ∷ ks) [] = no_members
held nodes (k ∷ ks) (v ∷ vs) = member (name_at nodes k) (value_data (narrow_at nodes (Some k)) v) (held nodes ks vs)

-- the tokens of one key of an entry: its name and its value
abbrev pub key_tokens : List Node → ℕ → Value → List Token
key_tokens nodes k v = Token.key (name_at nodes k) ∷ tokens_of (value_data (narrow_at nodes (Some k)) v)

-- members one after another
abbrev pub join : Members → Members → Members
join no_members ns = ns
join (member k d ms) ns = member k d (join ms ns)

-- the names of members stand before a name
abbrev pub Below : List ℕ → Members → Type 0
Below name no_members = Unit {0}
Below name (member k d ms) = (is_lt (slice_cmp nat_cmp k name) ≡ true) × Below name ms

-- the names of members stand after a name
abbrev pub Above : List ℕ → Members → Type 0
Above name no_members = Unit {0}
Above name (member k d ms) = (is_lt (slice_cmp nat_cmp name k) ≡ true) × Above name ms

-- the members that are keys at the front whose names stand before a name
abbrev pub taken : List Node → List ℕ → List ℕ → List Value → Members
taken nodes name [] vs = no_members
taken nodes name (k ∷ ks) [] = no_members
taken nodes name (k ∷ ks) (v ∷ vs) =
    cond (is_lt (slice_cmp nat_cmp (name_at nodes k) name))
    (member (name_at nodes k) (value_data (narrow_at nodes (Some k)) v) (taken nodes name ks vs)) no_members

-- the members that are the keys behind those
abbrev pub left_over : List Node → List ℕ → List ℕ → List Value → Members
left_over nodes name [] vs = no_members
left_over nodes name (k ∷ ks) [] = no_members
left_over nodes name (k ∷ ks) (v ∷ vs) = cond (is_lt (slice_cmp nat_cmp (name_at nodes k) name)) (left_over nodes name ks vs) (held nodes (k ∷ ks) (v ∷ vs))

-- how many keys at the front have names that stand before one
abbrev pub front_keys : List Node → List ℕ → List ℕ → ℕ
front_keys nodes name [] = 0
front_keys nodes name (k ∷ ks) = cond (is_lt (slice_cmp nat_cmp (name_at nodes k) name)) (suc (front_keys nodes name ks)) 0

-- a name stands before that of a key, if there is one
abbrev pub is_before_key : List Node → List ℕ → Option ℕ → Bool
is_before_key nodes name None = true
is_before_key nodes name (Some k) = is_lt (slice_cmp nat_cmp name (name_at nodes k))
