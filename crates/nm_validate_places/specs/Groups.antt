-- The paths of rows, in groups by the nodes that they lead to.
use Rattle.std.specs.Prelude.{◌≡◌, ◌<◌, ◌++◌, ℕ, List, [], ◌∷◌, length, map, filter, Bool, Option, Some, None, slice_get, if◌then◌else◌, Vec}
use Rattle.std.specs.Borrow.{Bor}
use Rattle.std.specs.FinMap.{keys, entries}
use Rattle.std.specs.declared.alloc.Global.{Global}
use Rattle.nm_types.specs.Path.{PathStep}
use Rattle.nm_schema_tree.specs.Nodes.{SchemaTree}
use Rattle.nm_config.specs.Rows.{Rows}
use Rattle.nm_validate_rules.specs.Guards.{is_node, leads_to}
use Rattle.nm_validate_places.specs.declared.areas.Grouped.{Grouped}
use Rattle.nm_validate_places.specs.Listed.{alone, HaveNodes}
use Rattle.nm_validate_places.specs.Tables.{AreOfCases}

-- paths that are lent
abbrev pub Group : Type 0
Group = Vec (Bor (List PathStep)) Global

-- the paths of a group
abbrev pub paths_in : Option Group → List (List PathStep)
paths_in None = []
paths_in (Some group) = map (λ path. path.now) group.items

-- the paths of a group, and none where there is no group of this number
abbrev pub in_group : List Group → ℕ → List (List PathStep)
in_group groups x = paths_in (slice_get groups x)

-- so many groups without paths
pub record AreEmpty (count : ℕ) (groups : List Group) : Type 0 where
  pub count_is : length groups ≡ count
  pub none : (x : ℕ) → in_group groups x ≡ []

-- a path as a list of one, where it belongs here
abbrev pub one_if : Bool → List PathStep → List (List PathStep)
one_if here path = if here then path ∷ [] else []

-- a path is put behind the others of the group of its node, and the other groups stay
pub record Puts (path : List PathStep) (node : Option ℕ) (before after : List Group) : Type 0 where
  pub same_count : length after ≡ length before
  pub put : (x : ℕ) → x < length before → in_group after x ≡ in_group before x ++ one_if (is_node x node) path

-- each node of a tree has the group of those of these paths that lead to it, in their order
pub record AreOf (t : SchemaTree) (paths : List (List PathStep)) (groups : List Group) : Type 0 where
  pub count : length groups ≡ length t.nodes
  pub each : (x : ℕ) → x < length t.nodes → in_group groups x ≡ filter (leads_to t x) paths

-- all rows of a configuration in path order, with their nodes, the paths of each node's rows, and the nodes of each case
pub record IsGrouped (t : SchemaTree) (rows : Rows) (grouped : Grouped) : Type 0 where
  pub rows_are : map alone grouped.rows.items ≡ entries rows
  pub nodes_are : HaveNodes t grouped.rows.items
  pub groups_are : AreOf t (keys rows) grouped.groups.items
  pub cases_are : AreOfCases t grouped.cases.items
