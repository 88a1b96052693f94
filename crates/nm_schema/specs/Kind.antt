-- What the nodes of a schema tree are (RFC 7950 sections 7.5 to 7.8).
use Rattle.std.specs.Prelude.{ℕ, List, map, fold, Bool, false, Option, Some, None, is_some, Result, Ok, Err, if◌then◌else◌}
use Rattle.nm_base.specs.Decimal.{number_of}
use Rattle.nm_schema_statements.specs.declared.row.Row.{Row}
use Rattle.nm_schema_statements.specs.declared.word.Word.{Word}
use Rattle.nm_schema_statements.specs.declared.word.Word.TheVariants as word
use Rattle.nm_schema_statements.specs.Rows.{first_below}
use Rattle.nm_graph.specs.Value.{all_there}
use Rattle.nm_schema_uses.specs.Arguments.{argument_at}
use Rattle.nm_schema_uses.specs.Config.{is_true}
use Rattle.nm_types.specs.declared.value.Value.{Value}
use Rattle.nm_types.specs.declared.fault.ValueFault.{ValueFault}
use Rattle.nm_types.specs.LeafType.{TypeOfLeaf}
use Rattle.nm_types.specs.Reading.{reading}
use Rattle.nm_schema_tree.specs.declared.node.Elements.{Elements}
use Rattle.nm_schema_tree.specs.declared.node.NodeKind.{NodeKind}
use Rattle.nm_schema_tree.specs.declared.node.NodeKind.TheVariants as kind
use Rattle.nm_schema_tree.specs.declared.node.Reference.{Reference}
use Rattle.nm_schema_typing.specs.Restricting.{argument_below}
use Rattle.nm_schema_typing.specs.Defaults.{default_of}
use Rattle.nm_schema_keys.specs.Keys.{keys_of}
use Rattle.nm_schema_keys.specs.Uniques.{uniques_of}
use Rattle.nm_schema_nodes.specs.declared.instance.Instance.{Instance}
use Rattle.nm_schema_uses.specs.Passing.{kept_members}
use Rattle.nm_schema_nodes.specs.Named.{child_named}
use Rattle.nm_schema_leafref.specs.declared.led.Led.{Led}
use Rattle.nm_schema_leafref.specs.declared.led.Led.TheVariants as led
use Rattle.nm_schema_leafref.specs.Walk.{led_to}
use Rattle.nm_schema_leafref.specs.Target.{type_of_node, up_of}
use Rattle.nm_schema_faults.specs.Facts.{Facts, definitions, standing, tree}
use Rattle.nm_schema_faults.specs.Misfit.{is_key_node}

-- ---- leafs

-- a value that was read; not known where the text is none
abbrev pub value_in : Result Value ValueFault → Option (Option Value)
value_in (Ok value) = Some (Some value)
value_in (Err fault) = None

-- a default by its text: none where there is no text, not known where the text is no value of the type
abbrev pub value_of : TypeOfLeaf → Option (List ℕ) → Option (Option Value)
value_of t None = Some None
value_of t (Some text) = value_in (reading t text)

-- the default of a leaf of type t: none for a key, whose default is ignored; not known where its text is no value of the type (RFC 7950 sections 7.6.1
-- and 7.8.2)
unfoldable pub default_in : List Row → Facts → Instance → TypeOfLeaf → Option (Option Value)
default_in rows facts node t =
    if is_key_node rows facts node then Some None else value_of t (default_of rows (definitions rows) node.row)

-- a text is there, and is `true`
abbrev pub says_true : Option (List ℕ) → Bool
says_true None = false
says_true (Some text) = is_true text

-- a leaf must be there; a key must be by itself (RFC 7950 sections 7.6.5 and 7.8.2)
unfoldable pub is_mandatory : List Row → Facts → Instance → Bool
is_mandatory rows facts node =
    if is_key_node rows facts node then false else says_true (argument_below rows node.row word.Mandatory)

-- a leafref's target, with how many nodes its path goes up; none for what is no leafref, not known where its path leads to no node
abbrev pub referred : ℕ → Option Led → Option (Option Reference)
referred up None = Some None
referred up (Some (led.Node y)) = Some (Some (record { target = y; up = up }))
referred up (Some led.Missing) = None
referred up (Some led.Unknown) = None

-- where node x leads as a leafref, and none where it is none; not known where its path leads nowhere (RFC 7950 section 9.9)
unfoldable pub reference_of : List Row → Facts → ℕ → Option (Option Reference)
reference_of rows facts x = referred (up_of (definitions rows) (tree rows facts) x) (led_to (definitions rows) (tree rows facts) x)

-- a leaf from its parts, where each of them is known
abbrev pub leaf_with : TypeOfLeaf → Option (Option Value) → Bool → Option (Option Reference) → Option NodeKind
leaf_with t None mandatory reference = None
leaf_with t (Some default) mandatory None = None
leaf_with t (Some default) mandatory (Some reference) = Some (kind.Leaf t default mandatory reference)

-- a leaf of a type, where the type is known
abbrev pub leaf_typed : List Row → Facts → ℕ → Instance → Option TypeOfLeaf → Option NodeKind
leaf_typed rows facts x node None = None
leaf_typed rows facts x node (Some t) =
    leaf_with t (default_in rows facts node t) (is_mandatory rows facts node) (reference_of rows facts x)

-- node x as a leaf (RFC 7950 section 7.6)
unfoldable pub leaf_of : List Row → Facts → ℕ → Instance → Option NodeKind
leaf_of rows facts x node = leaf_typed rows facts x node (type_of_node (definitions rows) (tree rows facts) x)

-- ---- how many elements

-- a number as a statement gives it; no bound where the statement is missing or its text is no number
abbrev pub bound : Option (List ℕ) → Option ℕ
bound None = None
bound (Some text) = number_of text

-- the fewest and the most elements; `unbounded` is no number (RFC 7950 sections 7.7.5 and 7.7.6)
unfoldable pub elements_of : List Row → ℕ → Elements
elements_of rows i = record { min = bound (argument_below rows i word.MinElements); max = bound (argument_below rows i word.MaxElements) }

-- ---- leaf-lists

-- a leaf-list from its parts, where each of them is known
abbrev pub leaf_list_with : Option TypeOfLeaf → Option (Option Reference) → Elements → Option NodeKind
leaf_list_with None reference elements = None
leaf_list_with (Some t) None elements = None
leaf_list_with (Some t) (Some reference) elements = Some (kind.LeafList t reference elements)

-- node x as a leaf-list (RFC 7950 section 7.7)
unfoldable pub leaf_list_of : List Row → Facts → ℕ → Instance → Option NodeKind
leaf_list_of rows facts x node =
    leaf_list_with (type_of_node (definitions rows) (tree rows facts) x) (reference_of rows facts x) (elements_of rows node.row)

-- ---- lists

-- the node directly in node x that has the name of a row
unfoldable pub named_as : List Row → Facts → ℕ → ℕ → Option ℕ
named_as rows facts x row = child_named rows facts.nodes x (argument_at rows row)

-- the nodes in node x that have the names of these rows, where all are there
abbrev pub nodes_named : List Row → Facts → ℕ → Option (List ℕ) → Option (List ℕ)
nodes_named rows facts x None = None
nodes_named rows facts x (Some keys) = all_there (map (named_as rows facts x) keys)

-- the key leafs of list x, in the order of its `key` (RFC 7950 section 7.8.2)
unfoldable pub keys_in : List Row → Facts → ℕ → ℕ → Option (List ℕ)
keys_in rows facts x row = nodes_named rows facts x (keys_of rows (definitions rows) (standing facts) row)

-- one node further on a way, where it leads that far
abbrev pub further : List Row → Facts → Option ℕ → ℕ → Option ℕ
further rows facts None row = None
further rows facts (Some x) row = named_as rows facts x row

-- the node that is reached from node x by the names of some rows
unfoldable pub reached : List Row → Facts → ℕ → List ℕ → Option ℕ
reached rows facts x way = fold (further rows facts) (Some x) way

-- the leafs of list x that a `unique` names (RFC 7950 section 7.8.3)
unfoldable pub group_in : List Row → Facts → ℕ → List (List ℕ) → Option (List ℕ)
group_in rows facts x ways = all_there (map (reached rows facts x) ways)

-- the leafs of each `unique`, where the ways are known and lead to leafs
abbrev pub groups_of : List Row → Facts → ℕ → Option (List (List (List ℕ))) → Option (List (List ℕ))
groups_of rows facts x None = None
groups_of rows facts x (Some uniques) = all_there (map (group_in rows facts x) uniques)

-- those of each `unique` of list x, in order
unfoldable pub groups_in : List Row → Facts → ℕ → ℕ → Option (List (List ℕ))
groups_in rows facts x row = groups_of rows facts x (uniques_of rows (definitions rows) (standing facts) row)

-- a list from its parts, where each of them is known
abbrev pub list_with : Option (List ℕ) → Option (List (List ℕ)) → Elements → Option NodeKind
list_with None groups elements = None
list_with (Some keys) None elements = None
list_with (Some keys) (Some groups) elements = Some (kind.List keys groups elements)

-- what stands in row i is known
unfoldable pub is_filled : List Row → ℕ → Bool
is_filled rows i = is_some (kept_members rows (definitions rows) i)

-- node x as a list (RFC 7950 section 7.8)
unfoldable pub list_of : List Row → Facts → ℕ → Instance → Option NodeKind
list_of rows facts x node =
    if is_filled rows node.row then list_with (keys_in rows facts x node.row) (groups_in rows facts x node.row) (elements_of rows node.row) else None

-- ---- containers

-- a container, by its row (RFC 7950 section 7.5)
unfoldable pub container_of : List Row → ℕ → Option NodeKind
container_of rows i = if is_filled rows i then Some (kind.Container (is_some (first_below rows i word.Presence))) else None

-- ---- nodes

-- what node x is, by the word of its row; none where something that it rests on isn't known
abbrev pub kind_of : List Row → Facts → ℕ → Instance → Word → Option NodeKind
kind_of rows facts x node word.Container = container_of rows node.row
kind_of rows facts x node word.Leaf = leaf_of rows facts x node
kind_of rows facts x node word.LeafList = leaf_list_of rows facts x node
kind_of rows facts x node word.List = list_of rows facts x node
kind_of rows facts x node _ = None
