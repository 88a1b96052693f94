-- Flat configurations and edits in JSON (this project's own): objects from keys, decimals below 2^32, to numbers.
use Rattle.std.specs.Prelude.{ℕ, ◌+◌, ◌^◌, nat_lt, List, Bool, true, ◌&&◌, Option, Some, None, is_some, unwrap_or, option_and_then, option_map, Result, Ok, Err, if◌then◌else◌}
use Rattle.std.specs.Ordering.{nat_cmp}
use Rattle.std.specs.FinMap.{FinMap, insert, empty}
use Rattle.serde_json.specs.Data.{Data, null, boolean, number, string, array, object, Members, no_members, member}
use Rattle.serde_json.specs.Find.{as_u64, as_object}
use Rattle.nm_base.specs.Decimal.{number_of}
use Rattle.nm_proto.specs.Content.{Refusal}
use Rattle.nm_flat.specs.Flat.{FlatState, flat_violation}
use Rattle.nm_flat.specs.declared.flat.FlatEdit.{FlatEdit}
use Rattle.nm_proto.specs.declared.kind.ScenarioKind.TheVariants.{Content, TooMany, Invalid}
use Rattle.nm_scenario_form.specs.declared.fault.Cause.{Cause}
use Rattle.nm_scenario_form.specs.declared.fault.Fault.{Fault}
use Rattle.nm_scenario_form.specs.Reading.{◌>>=◌, here, natural_of, plain}
use Rattle.nm_scenario_form.specs.Read.{told}
use Rattle.nm_scenario.specs.Causes.{refusal_cause}

-- the greatest number of rows of one device, and of nodes of one edit
abbrev pub row_limit : ℕ
row_limit = 20000

-- the greatest number of nodes of one edit
abbrev pub node_limit : ℕ
node_limit = 5000

-- ---- members

-- a number of at most 32 bits, spelt as a decimal
abbrev pub key_of : List ℕ → Option ℕ
key_of name = option_and_then (λ n. if nat_lt n (2 ^ 32) then Some n else None) (number_of name)

-- how many members an object has
abbrev pub member_count : Members → ℕ
member_count no_members = 0
member_count (member name part rest) = member_count rest + 1

-- a member is a key with a value
abbrev pub is_entry : {V : Type 0} → (Data → Option V) → List ℕ → Data → Bool
is_entry value name part = is_some (key_of name) && is_some (value part)

-- all members are so
abbrev pub are_entries : {V : Type 0} → (Data → Option V) → Members → Bool
are_entries value no_members = true
are_entries value (member name part rest) = is_entry value name part && are_entries value rest

-- the entries so far and those of more members, all of which are entries: of two with one key the later one stands
abbrev pub entries_after : {V : Type 0} → (Data → Option V) → V → FinMap nat_cmp V → Members → FinMap nat_cmp V
entries_after value some entries no_members = entries
entries_after value some entries (member name part rest) =
    entries_after value some (insert entries (unwrap_or (key_of name) 0) (unwrap_or (value part) some)) rest

-- the entries of an object of at most so many members, all of which are entries
abbrev pub entries_in : {V : Type 0} → ℕ → (Data → Option V) → V → Option Members → Result (FinMap nat_cmp V) Cause
entries_in most value some None = Err (plain Content)
entries_in most value some (Some members) = if nat_lt most (member_count members) then Err (plain TooMany) else
    (if are_entries value members then Ok (entries_after value some empty members) else Err (plain Content))

-- ---- configurations

-- the state of cells that no change set has marked
abbrev pub unmarked : FinMap nat_cmp ℕ → FlatState
unmarked cells = record { cells = cells; marks = empty }

-- a configuration that is valid
abbrev pub valid_state : FlatState → Option Refusal → Result FlatState Cause
valid_state state None = Ok state
valid_state state (Some refusal) = Err (refusal_cause Invalid refusal)

-- a running configuration of these cells, where they could be read and are valid
abbrev pub state_of : Result (FinMap nat_cmp ℕ) Cause → Result FlatState Cause
state_of (Ok cells) = valid_state (unmarked cells) (flat_violation (unmarked cells))
state_of (Err cause) = Err cause

-- a running configuration: cells, each with a number, that are valid
unfoldable pub cells_said : Data → Result FlatState Cause
cells_said part = state_of (entries_in row_limit natural_of 0 (as_object part))

-- ---- edits

-- the new value of a cell, or null to take it away
abbrev pub change_of : Data → Option (Option ℕ)
change_of null = Some None
change_of (boolean b) = None
change_of (number n) = option_map Some (as_u64 n)
change_of (string text) = None
change_of (array items) = None
change_of (object m) = None

-- an edit of these cells, where they could be read
abbrev pub edit_of : Result (FinMap nat_cmp (Option ℕ)) Cause → Result FlatEdit Cause
edit_of (Ok changes) = Ok (record { changes = changes })
edit_of (Err cause) = Err cause

-- an edit: cells, each with what becomes of it
unfoldable pub changes_said : Data → Result FlatEdit Cause
changes_said part = edit_of (entries_in node_limit change_of None (as_object part))

-- ---- member by member

-- what is there, or a fault of the whole configuration or edit
abbrev pub or_unread : {A : Type 0} → Option A → Result A Fault
or_unread None = here Content
or_unread (Some x) = Ok x

-- the entries so far, and then those of more members, one after another
abbrev pub entries_read : {V : Type 0} → (Data → Option V) → FinMap nat_cmp V → Members → Result (FinMap nat_cmp V) Fault
entries_read value entries no_members = Ok entries
entries_read value entries (member name part rest) = do
  key ← or_unread (key_of name)
  v ← or_unread (value part)
  entries_read value (insert entries key v) rest

-- the entries of at most so many members
abbrev pub entries_within : {V : Type 0} → ℕ → (Data → Option V) → Members → Result (FinMap nat_cmp V) Fault
entries_within most value members = if nat_lt most (member_count members) then here TooMany else entries_read value empty members

-- a running configuration, or its first fault
abbrev pub state_read : Members → Result FlatState Fault
state_read members = do
  cells ← entries_within row_limit natural_of members
  told (valid_state (unmarked cells) (flat_violation (unmarked cells)))

-- an edit, or its first fault
abbrev pub edit_read : Members → Result FlatEdit Fault
edit_read members = do
  changes ← entries_within node_limit change_of members
  Ok (record { changes = changes })
