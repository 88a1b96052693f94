-- What is so in rows, as a function of them.
use Rattle.std.specs.Prelude.{ℕ, zero, suc, ◌+◌, List, [], ◌++◌, length, map, Bool, false, ◌==◌, ◌&&◌, ◌||◌, Option, Some, None, if◌then◌else◌, slice_get}
use Rattle.std.specs.List.{find, list_any, range_with_len}
use Rattle.nm_schema_statements.specs.declared.row.Row.{Row}
use Rattle.nm_schema_statements.specs.Rows.{roots, same_parent}
use Rattle.nm_schema_names.specs.Graph.{leading}
use Rattle.nm_schema_uses.specs.Holding.{holding}
use Rattle.nm_schema_uses.specs.Config.{is_state, configuring}
use Rattle.nm_schema_keys.specs.ConfigUse.{ConfigUse}
use Rattle.nm_schema_keys.specs.Keys.{has_known, keys_of}
use Rattle.nm_schema_nodes.specs.declared.instance.Instance.{Instance}
use Rattle.nm_schema_nodes.specs.Expansion.{Expanded, expanded, kept_below, grown_members}
use Rattle.nm_schema_nodes.specs.Growing.{instance}
use Rattle.nm_schema_leafref.specs.declared.fault.PathFault.{PathFault}
use Rattle.nm_schema_leafref.specs.Walk.{path_row, led_to}
use Rattle.nm_schema_leafref.specs.Target.{targets}
use Rattle.nm_schema_leafref.specs.Known.{fault_of}
use Rattle.nm_schema_faults.specs.Fault.{first_some}
use Rattle.nm_schema_faults.specs.Facts.{Facts, facts_of, definitions, is_marked}

-- ---- what leads where

-- a number leads to another in at most so many steps, and at least one
unfoldable pub leads_within : (ℕ → List ℕ) → ℕ → ℕ → ℕ → Bool
leads_within next zero j i = false
leads_within next (suc steps) j i = list_any (λ k. k == j || leads_within next steps j k) (next i)

-- a number is another, or leads to it in at most so many steps
abbrev pub reaches_within : (ℕ → List ℕ) → ℕ → ℕ → ℕ → Bool
reaches_within next steps j i = i == j || leads_within next steps j i

-- ---- cycles and marks; of so many rows none leads to another in more steps than there are rows, where it leads there at all

-- the first row that leads to itself
unfoldable pub cycle_of : List Row → Option ℕ
cycle_of rows = find (λ i. leads_within (leading rows) (length rows) i i) (range_with_len 0 (length rows))

-- a row is used as configuration (RFC 7950 section 7.21.1)
unfoldable pub is_configured : List Row → ℕ → Bool
is_configured rows i = list_any (reaches_within (configuring rows (definitions rows)) (length rows) i) (roots rows)

-- a row is state, or stands in it (RFC 7950 section 7.21.1)
unfoldable pub stands_in_state : List Row → ℕ → Bool
stands_in_state rows i = list_any (λ k. is_state rows k && reaches_within (holding rows (definitions rows)) (length rows) i k) (range_with_len 0 (length rows))

-- for each row whether it passes a test
abbrev pub marks_of : List Row → (ℕ → Bool) → List Bool
marks_of rows test = map test (range_with_len 0 (length rows))

-- how rows are used
abbrev pub standing_of : List Row → ConfigUse
standing_of rows = record { configured = is_marked (marks_of rows (is_configured rows)); in_state = is_marked (marks_of rows (stands_in_state rows)) }

-- a row is a key leaf of a list (RFC 7950 section 7.8.2)
unfoldable pub is_key_leaf : List Row → ℕ → Bool
is_key_leaf rows i = list_any (λ l. has_known (keys_of rows (definitions rows) (standing_of rows) l) i) (range_with_len 0 (length rows))

-- ---- the nodes of the tree

-- the nodes at the tops of so many modules
unfoldable pub tops_of : List Row → ℕ → List Instance
tops_of rows zero = []
tops_of rows (suc m) = tops_of rows m ++ map (instance None m) (grown_members rows (definitions rows) m)

-- nodes with what stands in node i
abbrev pub below_of : List Row → List Instance → ℕ → Option Instance → List Instance
below_of rows nodes i None = nodes
below_of rows nodes i (Some node) = nodes ++ map (instance (Some i) node.owner) (kept_below rows (definitions rows) node.row)

-- nodes with what stands in node i and so many after it, level by level
unfoldable pub filled_from : List Row → ℕ → ℕ → List Instance → List Instance
filled_from rows zero i nodes = nodes
filled_from rows (suc steps) i nodes = filled_from rows steps (i + 1) (below_of rows nodes i (slice_get nodes i))

-- the nodes of the tree: at most 20,000 (this project's own)
unfoldable pub nodes_of : List Row → List Instance
nodes_of rows = filled_from rows 20000 0 (tops_of rows (length (roots rows)))

-- ---- paths

-- what is wrong with node x as a leafref
unfoldable pub node_fault : List (Option ℕ) → Expanded → ℕ → Option PathFault
node_fault typedefs t x = fault_of (led_to typedefs t x) (leads_within (targets typedefs t) (length t.nodes) x x)

-- the same, where the node has the path of row p
unfoldable pub fault_for : List (Option ℕ) → Expanded → ℕ → ℕ → Option PathFault
fault_for typedefs t p x = if same_parent (path_row typedefs t x) (Some p) then node_fault typedefs t x else None

-- what is wrong with the path of row p: that of the first node that is faulty by it (this project's own)
unfoldable pub path_fault : List (Option ℕ) → Expanded → ℕ → Option PathFault
path_fault typedefs t p = first_some (map (fault_for typedefs t p) (range_with_len 0 (length t.nodes)))

-- ---- all of it

-- all that the checks of modules go by, as the definitions give it
unfoldable pub facts_in : List Row → Facts
facts_in rows =
    facts_of (cycle_of rows) (marks_of rows (is_configured rows)) (marks_of rows (stands_in_state rows)) (marks_of rows (is_key_leaf rows)) (nodes_of rows)
    (map (path_fault (definitions rows) (expanded rows (definitions rows) (nodes_of rows))) (range_with_len 0 (length rows)))
