-- Configurations as JSON values (RFC 7951 sections 4 to 6).
use Rattle.std.specs.Prelude.{ℕ, ℤ, pos, negsuc, int_le, int_lt, ◌&&◌, List, [], ◌∷◌, ◌++◌, fold, Bool, true, false, Option, Some, None}
use Rattle.std.specs.FinMap.{entries}
use Rattle.serde_json.specs.Data.{Data, null, boolean, number, string, array, object, Items, no_items, item, Members, no_members, put}
use Rattle.serde_json.specs.Find.{get_member, of_integer}
use Rattle.nm_types.specs.LeafType.{Kind, integer, decimal, boolean as flags, string as texts, enumeration, bits, empty, TypeOfLeaf}
use Rattle.nm_types.specs.Canonical.{canonical}
use Rattle.nm_types.specs.Path.{PathStep, Choice, whole, keys, entry}
use Rattle.nm_types.specs.declared.value.Value.{Value}
use Rattle.nm_types.specs.declared.value.Value.TheVariants.{Int, Decimal, Text, Name, Bits, Empty, Present, Bool as Flag}
use Rattle.nm_schema_tree.specs.declared.node.Node.{Node}
use Rattle.nm_schema_tree.specs.Nodes.{SchemaTree, keys_at, type_at}
use Rattle.nm_path.specs.declared.place.Place.{Place}
use Rattle.nm_path.specs.declared.place.Place.TheVariants.{Top, Within, Nowhere}
use Rattle.nm_path.specs.Spelling.{found_of, below, name_at}
use Rattle.nm_config.specs.Rows.{Rows}
use Rattle.nm_json.specs.Values.{is_narrow}

-- ---- values (RFC 7951 section 6)

-- a number that is written as a JSON number where its type has at most 32 bits
unfoldable pub is_small : ℤ → Bool
is_small z = int_le (negsuc 2147483647) z && int_lt z (pos 4294967296)

-- the JSON value of an integer: a number or a string
abbrev pub integer_data : Bool → ℤ → Data
integer_data true z = number (of_integer z)
integer_data false z = string (canonical (Int z))

-- the JSON value of a value: integers of a narrow type are JSON numbers
abbrev pub value_data : Bool → Value → Data
value_data narrow (Int z) = integer_data (narrow && is_small z) z
value_data narrow (Flag b) = boolean b
value_data narrow Empty = array (item null no_items)
value_data narrow Present = object no_members
value_data narrow (Decimal z digits) = string (canonical (Decimal z digits))
value_data narrow (Text text) = string (canonical (Text text))
value_data narrow (Name text) = string (canonical (Name text))
value_data narrow (Bits text) = string (canonical (Bits text))

-- whether a kind of type has integers of at most 32 bits
abbrev pub narrow_kind : Kind → Bool
narrow_kind (integer low high) = is_narrow high
narrow_kind (decimal digits) = false
narrow_kind flags = false
narrow_kind texts = false
narrow_kind (enumeration names) = false
narrow_kind (bits all) = false
narrow_kind empty = false

-- whether a type has integers of at most 32 bits
abbrev pub narrow_type : Option TypeOfLeaf → Bool
narrow_type None = false
narrow_type (Some t) = narrow_kind t.kind

-- whether the type of node i has integers of at most 32 bits
abbrev pub narrow_at : List Node → Option ℕ → Bool
narrow_at nodes None = false
narrow_at nodes (Some i) = narrow_type (type_at nodes i)

-- ---- rows

-- a member has the module's name at the top, and not below (RFC 7951 section 4)
abbrev pub member_name : Place → PathStep → List ℕ
member_name Top s = s.«module» ++ 58 ∷ s.name
member_name (Within i) s = s.name
member_name Nowhere s = s.name

-- the members of a JSON value that is an object
abbrev pub members_in : Option Data → Members
members_in (Some (object ms)) = ms
members_in _ = no_members

-- the items of a JSON value that is an array
abbrev pub items_in : Option Data → Items
items_in (Some (array ds)) = ds
items_in _ = no_items

-- the members of an entry that are its keys (RFC 7951 section 5.4)
abbrev pub key_members : List Node → List ℕ → List Value → Members → Members
key_members nodes [] vs ms = ms
key_members nodes (k ∷ ks) [] ms = ms
key_members nodes (k ∷ ks) (v ∷ vs) ms = key_members nodes ks vs (put (name_at nodes k) (value_data (narrow_at nodes (Some k)) v) ms)

-- an item more at the end
abbrev pub append : Items → Data → Items
append no_items d = item d no_items
append (item e ds) d = item e (append ds d)

-- an object once something is put into it
abbrev pub object_after : (Members → Members) → Option Data → Data
object_after f before = object (f (members_in before))

-- items of which the last is an object into which something is put
abbrev pub in_last : (Members → Members) → Items → Items
in_last f no_items = no_items
in_last f (item d no_items) = item (object_after f (Some d)) no_items
in_last f (item d (item e ds)) = item d (in_last f (item e ds))

-- the JSON value of a step once a row is put there: f puts it below the step, if the path goes on. The entries of a list
-- and leaf-list stand in an array in the order of their rows, and an entry's row before those below it.
abbrev pub step_data : List Node → Option ℕ → Choice → List PathStep → Value → Option Data → (Members → Members) → Data
step_data nodes at whole [] v before f = value_data (narrow_at nodes at) v
step_data nodes at whole (s ∷ ss) v before f = object_after f before
step_data nodes at (entry w) ss v before f = array (append (items_in before) (value_data (narrow_at nodes at) w))
step_data nodes at (keys ks) [] v before f = array (append (items_in before) (object (key_members nodes (keys_at nodes at) ks no_members)))
step_data nodes at (keys ks) (s ∷ ss) v before f = array (in_last f (items_in before))

-- the members of an object once a row is put there
abbrev pub put_steps : SchemaTree → Place → List PathStep → Value → Members → Members
put_steps t place [] v ms = ms
put_steps t place (s ∷ ss) v ms =
    put (member_name place s)
    (step_data t.nodes (found_of t.nodes place s.«module» s.name) s.chosen ss v (get_member (member_name place s) ms)
    (put_steps t (below (found_of t.nodes place s.«module» s.name)) ss v))
    ms

-- the members of the whole once a row is put there
unfoldable pub put_row : SchemaTree → Members → List PathStep × Value → Members
put_row t ms r = put_steps t Top r.0 r.1 ms

-- the JSON value of a configuration: the rows are put there in path order
unfoldable pub config_data : SchemaTree → Rows → Data
config_data t rows = object (fold (put_row t) no_members (entries rows))
