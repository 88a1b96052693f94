-- The edit that takes an edit back: an edit by itself, of the operations merge and remove alone (RFC 6241 section 7.2; which nodes
-- it names is this project's own).
use Rattle.std.specs.Prelude.{◌≡◌, ℕ, List, [], ◌∷◌, ◌++◌, Bool, false, not, ◌&&◌, ◌||◌, nat_lt, Option, Some, None, Result, Ok, Err, slice_get, map as each, if◌then◌else◌}
use Rattle.std.specs.List.{flat_map}
use Rattle.std.specs.FinMap.{get, len, empty, contains_key}
use Rattle.nm_types.specs.Path.{PathStep}
use Rattle.nm_types.specs.declared.value.Value.{Value}
use Rattle.nm_types.specs.declared.value.Value.TheVariants.{Present}
use Rattle.nm_proto.specs.Content.{Refusal}
use Rattle.nm_proto.specs.declared.message.DefaultOperation.{DefaultOperation}
use Rattle.nm_schema_tree.specs.declared.node.Node.{Node}
use Rattle.nm_schema_tree.specs.Nodes.{SchemaTree, is_guard_at}
use Rattle.nm_path.specs.Spelling.{node_of}
use Rattle.nm_path.specs.Sound.{is_leaf}
use Rattle.nm_config.specs.Rows.{Rows, with_entries}
use Rattle.nm_validate_rules.specs.Standing.{is_own_at}
use Rattle.nm_overlay.specs.Places.{Pair}
use Rattle.nm_edit.specs.declared.operation.Operation.TheVariants.{Remove}
use Rattle.nm_edit.specs.declared.edit.EditNode.{EditNode}
use Rattle.nm_edit.specs.declared.fault.EditFault.{EditFault}
use Rattle.nm_edit.specs.declared.fault.EditFault.TheVariants as edit_fault
use Rattle.nm_edit.specs.Changed.{changes_of, in_order}
use Rattle.nm_edit_json.specs.declared.nodes.Told.{Told}
use Rattle.nm_edit_json.specs.Whole.{NodeMap, nodes_in, node_limit}
use Rattle.nm_undo.specs.declared.fault.InverseFault.{InverseFault}
use Rattle.nm_undo.specs.declared.fault.InverseFault.TheVariants.{Refused, TooLarge, NoMemory}

-- what takes an edit back: the nodes of an edit, and what each row that was changed was before
pub record Undoing : Type 0 where
  pub nodes : List EditNode
  pub rows : List Pair

-- a path, and what the edit says of it
abbrev pub Saying : Type 0
Saying = List PathStep × Told

-- ---- what is said of the rows that were changed

-- a path is that of a list entry or of a container with presence that isn't there
abbrev pub is_lacking : SchemaTree → Rows → List PathStep → Bool
is_lacking t rows path = is_own_at t.nodes (node_of t path) && not (contains_key rows path)

-- one of these stands above the end of some steps
abbrev pub lacks_from : SchemaTree → Rows → List PathStep → List PathStep → Bool
lacks_from t rows above [] = false
lacks_from t rows above (s ∷ ss) = is_lacking t rows above || lacks_from t rows (above ++ s ∷ []) ss

-- a list entry or a container with presence above a path isn't there
abbrev pub lacks_above : SchemaTree → Rows → List PathStep → Bool
lacks_above t rows path = lacks_from t rows [] path

-- a node is a leaf
abbrev pub is_leaf_in : Option Node → Bool
is_leaf_in None = false
is_leaf_in (Some n) = is_leaf n.kind

-- a node is a leaf, if there is one
abbrev pub is_leaf_at : List Node → Option ℕ → Bool
is_leaf_at nodes None = false
is_leaf_at nodes (Some x) = is_leaf_in (slice_get nodes x)

-- a node that is merged
abbrev pub merged : Option Value → Told
merged value = record { operation = None; value = value }

-- a node that is removed: a leaf is named without its value
abbrev pub removed : SchemaTree → List PathStep → Value → Told
removed t path value = record { operation = Some Remove; value = if is_leaf_at t.nodes (node_of t path) then None else Some value }

-- a row that has come goes again, unless a list entry or a container with presence above it came with it and so takes it along
abbrev pub removed_if : SchemaTree → List PathStep → Value → Bool → Option Told
removed_if t path value lacks = if lacks then None else Some (removed t path value)

-- what is said of a row that was changed, by its value before and after: one that was there is merged again
abbrev pub said_by : SchemaTree → Rows → List PathStep → Option Value → Option Value → Option Told
said_by t old path (Some before) after = Some (merged (Some before))
said_by t old path None (Some after) = removed_if t path after (lacks_above t old path)
said_by t old path None None = None

-- a saying as a list of one, where there is one
abbrev pub sayings : List PathStep → Option Told → List Saying
sayings path None = []
sayings path (Some told) = (path, told) ∷ []

-- what is said of the row of a change
abbrev pub said_at : SchemaTree → Rows → Pair → List Saying
said_at t old change = sayings change.0 (said_by t old change.0 (get old change.0) change.1)

-- what is said of the rows of changes, in their order
abbrev pub said : SchemaTree → Rows → List Pair → List Saying
said t old changes = flat_map (said_at t old) changes

-- ---- what is said above them

-- a node on the way is merged: a list entry and a container with presence with their row
abbrev pub front_told : SchemaTree → ℕ → Told
front_told t x = merged (if is_guard_at t.nodes x then Some Present else None)

-- what is said of a node on the way
abbrev pub front_by : SchemaTree → List PathStep → Option ℕ → List Saying
front_by t path None = []
front_by t path (Some x) = (path, front_told t x) ∷ []

-- what is said of the nodes above the end of some steps, from the top down
abbrev pub fronts_from : SchemaTree → List PathStep → List PathStep → List Saying
fronts_from t above [] = []
fronts_from t above (s ∷ ss) = front_by t above (node_of t above) ++ fronts_from t (above ++ s ∷ []) ss

-- what is said of the nodes above a path
abbrev pub fronts : SchemaTree → List PathStep → List Saying
fronts t path = fronts_from t [] path

-- the same of the path of a saying
abbrev pub fronts_of : SchemaTree → Saying → List Saying
fronts_of t saying = fronts t saying.0

-- ---- the whole

-- the nodes by their paths: first those above, then those of the rows themselves
abbrev pub mapped : SchemaTree → List Saying → NodeMap
mapped t all = with_entries (with_entries empty (flat_map (fronts_of t) all)) all

-- what a row was before it was changed
abbrev pub row_back : Rows → Pair → Pair
row_back old change = (change.0, get old change.0)

-- what takes changes of rows back
abbrev pub undoing : SchemaTree → Rows → List Pair → Undoing
undoing t old changes = record { nodes = nodes_in (mapped t (said t old changes)); rows = each (row_back old) changes }

-- the same, unless an edit of so many nodes would be too large
abbrev pub undone_by : SchemaTree → Rows → List Pair → Result Undoing (Option Refusal)
undone_by t old changes = if nat_lt node_limit (len (mapped t (said t old changes))) then Err None else Ok (undoing t old changes)

-- the same of the changes that an edit makes, or the refusal of that edit
abbrev pub inverted : SchemaTree → Rows → Result (List Pair) Refusal → Result Undoing (Option Refusal)
inverted t old (Ok changes) = undone_by t old changes
inverted t old (Err refusal) = Err (Some refusal)

-- what takes an edit back; or why nothing does: the edit is refused, or what takes it back would be too large, which is None
abbrev pub inverse_of : SchemaTree → Rows → List EditNode → DefaultOperation → Result Undoing (Option Refusal)
inverse_of t old nodes d = inverted t old (in_order (changes_of t old nodes d))

-- ---- answers

-- why an edit isn't done is why it isn't taken back
abbrev pub fault_of : EditFault → InverseFault
fault_of (edit_fault.Refused tag path) = Refused tag path
fault_of edit_fault.NoMemory = NoMemory

-- an answer: what takes an edit back, or why nothing does, unless memory ran out
abbrev pub Inverts : Result Undoing InverseFault → Result Undoing (Option Refusal) → Type 0
Inverts (Ok undoing) given = given ≡ Ok undoing
Inverts (Err (Refused tag path)) given = given ≡ Err (Some (record { tag = tag; path = path }))
Inverts (Err TooLarge) given = given ≡ Err None
Inverts (Err NoMemory) given = Unit {0}
