-- What is kept beside the nodes to find them.
use Rattle.std.specs.Prelude.{◌≡◌, ℕ, ◌<◌, List, [], ◌∷◌, ◌++◌, length, Bool, ◌&&◌, Option, Some, None, if◌then◌else◌, get_or, slice_set}
use Rattle.std.specs.Option.{option_cmp}
use Rattle.std.specs.declared.cmp.Ordering.{Ordering}
use Rattle.std.specs.Ordering.{nat_cmp, ordering_then}
use Rattle.std.specs.Cmp.Lexicographic.{slice_cmp}
use Rattle.std.specs.BTreeMap.{BTreeMap, get}
use Rattle.std.specs.List.{position_from}
use Rattle.nm_schema_statements.specs.declared.row.Row.{Row}
use Rattle.nm_schema_statements.specs.Rows.{same_parent, roots}
use Rattle.nm_schema_nodes.specs.declared.instance.Instance.{Instance}
use Rattle.nm_schema_nodes.specs.declared.table.Key.{Key}
use Rattle.nm_schema_nodes.specs.declared.table.Table.{Table}
use Rattle.nm_schema_nodes.specs.declared.index.Index.{Index}
use Rattle.nm_schema_nodes.specs.Expansion.{children, tops, first_large, IsExpansion}
use Rattle.nm_schema_nodes.specs.Named.{has_name}

-- the module whose top a node stands at
abbrev pub module_above : Option ℕ → ℕ → Option ℕ
module_above None owner = Some owner
module_above (Some parent) owner = None

-- a node stands in that node, or at the top of that module, and has the name
abbrev pub has_key : List Row → Option ℕ → Option ℕ → List ℕ → Instance → Bool
has_key rows parent owner name node =
    same_parent node.parent parent && (same_parent (module_above node.parent node.owner) owner && has_name rows name node)

-- keys are ordered by where the node stands and the bytes of its name
abbrev pub key_cmp : Key → Key → Ordering
key_cmp x y = ordering_then (option_cmp nat_cmp x.parent y.parent)
    (ordering_then (option_cmp nat_cmp x.owner y.owner) (slice_cmp nat_cmp x.name.now y.name.now))

-- what a table has for a key
abbrev pub found : Table → Key → Option ℕ
found t key = get key_cmp t.map key

-- a table has the first node of each key
unfoldable pub IsTable : List Row → List Instance → Table → Type 0
IsTable rows nodes t = (key : Key) → found t key ≡ position_from (has_key rows key.parent key.owner key.name.now) 0 nodes

-- a node's key leads to the node, and others lead where they led
abbrev pub Puts : List Row → Instance → ℕ → BTreeMap Key ℕ → BTreeMap Key ℕ → Type 0
Puts rows node at before after = (key : Key)
    → get key_cmp after key ≡ (if has_key rows key.parent key.owner key.name.now node then Some at else get key_cmp before key)

-- lists once a number is added at the end of the list of a holder, if there is one
abbrev pub listed_with : List (List ℕ) → Option ℕ → ℕ → List (List ℕ)
listed_with lists None number = lists
listed_with lists (Some holder) number = slice_set lists holder (get_or lists holder [] ++ number ∷ [])

-- the children of each node
pub record AreChildren (nodes : List Instance) (below : List (List ℕ)) : Type 0 where
  pub size : length below ≡ length nodes
  pub each : (i : ℕ) → i < length nodes → get_or below i [] ≡ children nodes i

-- the nodes at the top of each of so many modules
pub record AreTops (count : ℕ) (nodes : List Instance) (tops_each : List (List ℕ)) : Type 0 where
  pub size : length tops_each ≡ count
  pub each : (m : ℕ) → m < count → get_or tops_each m [] ≡ tops nodes m

-- both
pub record IsIndex (count : ℕ) (nodes : List Instance) (index : Index) : Type 0 where
  pub children_are : AreChildren nodes index.below.items
  pub tops_are : AreTops count nodes index.tops.items

-- what is known of an expansion
pub record IsFound (rows : List Row) (groupings : List (Option ℕ)) (nodes : List Instance) (large : Option ℕ) (index : Index) (table : Table) : Type 0 where
  pub large_is : large ≡ first_large rows groupings
  pub expansion : IsExpansion rows groupings nodes
  pub index_is : IsIndex (length (roots rows)) nodes index
  pub table_is : IsTable rows nodes table
