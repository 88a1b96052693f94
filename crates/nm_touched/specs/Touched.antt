-- The rows that an edit touches, and how (RFC 8341 section 3.2.2).
use Rattle.std.specs.Prelude.{◌≡◌, List, [], ◌∷◌, Option, Some, None, Result, Ok, Err, T, map as each, if◌then◌else◌}
use Rattle.std.specs.FinMap.{get, is_sorted}
use Rattle.nm_types.specs.Path.{PathStep, path_cmp}
use Rattle.nm_types.specs.Value.{is_same_value}
use Rattle.nm_types.specs.declared.value.Value.{Value}
use Rattle.nm_proto.specs.Content.{Refusal}
use Rattle.nm_proto.specs.declared.message.DefaultOperation.{DefaultOperation}
use Rattle.nm_proto.specs.declared.message.RowAccess.{RowAccess}
use Rattle.nm_proto.specs.declared.message.RowAccess.TheVariants.{Create, Update, Delete}
use Rattle.nm_schema_tree.specs.Nodes.{SchemaTree}
use Rattle.nm_config.specs.Rows.{Rows}
use Rattle.nm_overlay.specs.Places.{Pair}
use Rattle.nm_edit.specs.declared.edit.EditNode.{EditNode}
use Rattle.nm_edit.specs.declared.fault.EditFault.{EditFault}
use Rattle.nm_edit.specs.declared.fault.EditFault.TheVariants.{Refused, NoMemory}
use Rattle.nm_edit.specs.Changed.{changes_of, in_order}

-- a row, and what is done to it
abbrev pub Touch : Type 0
Touch = List PathStep × RowAccess

-- ---- path by path

-- what is done to a row, by what stands at its path before and after: it comes, it goes, it gets another value, or nothing
abbrev pub touch_between : Option Value → Option Value → Option RowAccess
touch_between None None = None
touch_between None (Some after) = Some Create
touch_between (Some before) None = Some Delete
touch_between (Some before) (Some after) = if is_same_value before after then None else Some Update

-- touches stand in path order, each path once
abbrev pub Ascends : List Touch → Type 0
Ascends touches = T (is_sorted path_cmp touches)

-- ---- the whole

-- what is done to a row at which something changes
abbrev pub access_by : Option Value → Option Value → RowAccess
access_by before None = Delete
access_by None (Some after) = Create
access_by (Some before) (Some after) = Update

-- what a change does to its row
abbrev pub touch : Rows → Pair → Touch
touch old change = (change.0, access_by (get old change.0) change.1)

-- the same as a list of one
abbrev pub touches : Rows → Pair → List Touch
touches old change = touch old change ∷ []

-- what changes do to their rows, or the refusal
abbrev pub touched_by : Rows → Result (List Pair) Refusal → Result (List Touch) Refusal
touched_by old (Ok changes) = Ok (each (touch old) changes)
touched_by old (Err refusal) = Err refusal

-- the rows that an edit touches, in path order: those at which what it makes differs from what is there; or its refusal
abbrev pub touched : SchemaTree → Rows → List EditNode → DefaultOperation → Result (List Touch) Refusal
touched t old nodes d = touched_by old (in_order (changes_of t old nodes d))

-- an answer: the rows that are touched or the refusal, unless memory ran out
abbrev pub Tells : {A : Type 0} → (A → List Touch) → Result A EditFault → Result (List Touch) Refusal → Type 0
Tells touches_of (Ok told) given = given ≡ Ok (touches_of told)
Tells touches_of (Err (Refused tag path)) given = given ≡ Err (record { tag = tag; path = path })
Tells touches_of (Err NoMemory) given = Unit {0}
