-- What is so in the rows of modules, and is found by search.
use Rattle.std.specs.Prelude.{◌≡◌, ℕ, ◌<◌, List, length, map, Bool, false, Option, None, IfSome, IfNone, slice_index_or}
use Rattle.std.specs.List.{range_with_len}
use Rattle.nm_schema_statements.specs.declared.row.Row.{Row}
use Rattle.nm_schema_names.specs.Leads.{leads_to}
use Rattle.nm_schema_names.specs.Graph.{leading}
use Rattle.nm_schema_uses.specs.Config.{LeadsBy, Marks, IsConfiguration, IsInState}
use Rattle.nm_schema_keys.specs.ConfigUse.{ConfigUse}
use Rattle.nm_schema_keys.specs.Keys.{IsKey}
use Rattle.nm_schema_nodes.specs.declared.instance.Instance.{Instance}
use Rattle.nm_schema_nodes.specs.Expansion.{Expanded, expanded, IsExpansion}
use Rattle.nm_schema_leafref.specs.declared.fault.PathFault.{PathFault}
use Rattle.nm_schema_leafref.specs.Fault.{HasFault}

-- for each row the typedef that it names as a type, or the grouping that it names as a uses (RFC 7950 sections 7.4 and 7.13)
unfoldable pub definitions : List Row → List (Option ℕ)
definitions rows = map (leads_to rows) (range_with_len 0 (length rows))

-- the first row that leads to itself through typedefs or groupings; for each row whether it is used as configuration, stands in state, and is a key
-- leaf; the nodes of the tree; and for each row what is wrong with its path
pub record Facts : Type 0 where
  pub cycle : Option ℕ
  pub configured : List Bool
  pub in_state : List Bool
  pub keys : List Bool
  pub nodes : List Instance
  pub paths : List (Option PathFault)

-- facts from what each of the searches found
abbrev pub facts_of : Option ℕ → List Bool → List Bool → List Bool → List Instance → List (Option PathFault) → Facts
facts_of cycle configured in_state keys nodes paths =
    record { cycle = cycle; configured = configured; in_state = in_state; keys = keys; nodes = nodes; paths = paths }

-- row i is marked
unfoldable pub is_marked : List Bool → ℕ → Bool
is_marked marks i = slice_index_or marks i false

-- how rows are used
abbrev pub standing : Facts → ConfigUse
standing facts = record { configured = is_marked facts.configured; in_state = is_marked facts.in_state }

-- the tree of the modules
abbrev pub tree : List Row → Facts → Expanded
tree rows facts = expanded rows (definitions rows) facts.nodes

-- a row leads to itself through types, parts, typedefs and groupings, and no earlier one does
pub record IsLeastCycle (rows : List Row) (i : ℕ) : Type 0 where
  pub leads : LeadsBy (leading rows) i i
  pub least : (j : ℕ) → j < i → ¬ (LeadsBy (leading rows) j j)

-- no row leads to itself
abbrev pub IsAcyclic : List Row → Type 0
IsAcyclic rows = (i : ℕ) → ¬ (LeadsBy (leading rows) i i)

-- the least row that leads to itself, if there is one (RFC 7950 sections 7.3, 7.12 and 7.13)
pub record IsCycle (rows : List Row) (cycle : Option ℕ) : Type 0 where
  pub least : IfSome cycle (IsLeastCycle rows)
  pub none : IfNone cycle (IsAcyclic rows)

-- these are so, and each list has as many items as there are rows
pub record AreFacts (rows : List Row) (facts : Facts) : Type 0 where
  pub cycle : IsCycle rows facts.cycle
  pub configured : Marks (IsConfiguration rows (definitions rows)) facts.configured
  pub configured_size : length facts.configured ≡ length rows
  pub in_state : Marks (IsInState rows (definitions rows)) facts.in_state
  pub in_state_size : length facts.in_state ≡ length rows
  pub keys : Marks (IsKey rows (definitions rows) (standing facts)) facts.keys
  pub keys_size : length facts.keys ≡ length rows
  pub nodes : IsExpansion rows (definitions rows) facts.nodes
  pub paths : (p : ℕ) → p < length rows → HasFault (definitions rows) (tree rows facts) p (slice_index_or facts.paths p None)
  pub paths_size : length facts.paths ≡ length rows
