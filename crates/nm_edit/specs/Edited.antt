-- The configuration that an edit makes of another (RFC 6241 section 7.2, RFC 7950 sections 7.5 to 7.9).
use Rattle.std.specs.Prelude.{◌≡◌, nat_lt, List, [], ◌∷◌, ◌++◌, fold, Bool, ◌&&◌, Option, Some, None, Result, Ok, Err, if◌then◌else◌}
use Rattle.std.specs.List.{flat_map}
use Rattle.std.specs.FinMap.{empty, get, len}
use Rattle.nm_types.specs.Path.{PathStep}
use Rattle.nm_types.specs.declared.value.Value.{Value}
use Rattle.nm_base.specs.declared.tag.Tag.TheVariants.{ResourceDenied}
use Rattle.nm_proto.specs.Content.{Refusal}
use Rattle.nm_proto.specs.declared.message.DefaultOperation.{DefaultOperation}
use Rattle.nm_proto.specs.declared.message.DefaultOperation.TheVariants as unsaid
use Rattle.nm_schema_tree.specs.Nodes.{SchemaTree}
use Rattle.nm_path.specs.Spelling.{node_of}
use Rattle.nm_config.specs.Rows.{Rows, with_entries}
use Rattle.nm_config.specs.Under.{without_under}
use Rattle.nm_json.specs.Whole.{row_limit}
use Rattle.nm_validate_rules.specs.Standing.{is_own_at}
use Rattle.nm_edit.specs.declared.edit.EditNode.{EditNode}
use Rattle.nm_edit.specs.declared.act.Act.{Act}
use Rattle.nm_edit.specs.declared.fault.EditFault.{EditFault}
use Rattle.nm_edit.specs.declared.fault.EditFault.TheVariants.{Refused, NoMemory}
use Rattle.nm_edit.specs.Words.{clears}
use Rattle.nm_edit.specs.Acts.{acts, coming}
use Rattle.nm_edit.specs.Refusals.{first_refusal}
use Rattle.nm_edit.specs.Rivals.{ousted_by}

-- ---- what goes

-- rows without those at or below some nodes
abbrev pub all_without : Rows → List (List PathStep) → Rows
all_without rows nodes = fold without_under rows nodes

-- a path as a list of one, where its node goes
abbrev pub gone_if : Bool → List PathStep → List (List PathStep)
gone_if goes path = if goes then path ∷ [] else []

-- the path of a node of which the edit says replace, delete or remove
abbrev pub gone_at : Act → List (List PathStep)
gone_at a = gone_if (a.is_explicit && clears a.operation) a.path

-- the paths of the nodes of which the edit says replace, delete or remove
abbrev pub gone : List Act → List (List PathStep)
gone acts = flat_map gone_at acts

-- the paths of the nodes that are of another case than a row that comes (RFC 7950 section 7.9)
abbrev pub ousted : SchemaTree → List (List PathStep × Value) → List (List PathStep)
ousted t rows = flat_map (λ row. ousted_by t row.0) rows

-- ---- what is held

-- the row at a path, where there is one
abbrev pub rows_at : List PathStep → Option Value → List (List PathStep × Value)
rows_at path None = []
rows_at path (Some value) = (path, value) ∷ []

-- the row of a list entry or a container with presence
abbrev pub held_at : SchemaTree → Rows → List PathStep → List (List PathStep × Value)
held_at t old path = if is_own_at t.nodes (node_of t path) then rows_at path (get old path) else []

-- the same along the steps of a path, from the top down
abbrev pub held_from : SchemaTree → Rows → List PathStep → List PathStep → List (List PathStep × Value)
held_from t old above [] = []
held_from t old above (s ∷ ss) = held_at t old above ++ held_from t old (above ++ s ∷ []) ss

-- the rows of the list entries and containers with presence above a path
abbrev pub held_above : SchemaTree → Rows → List PathStep → List (List PathStep × Value)
held_above t old path = held_from t old [] path

-- the rows of the list entries and containers with presence above the rows that come
abbrev pub held : SchemaTree → Rows → List (List PathStep × Value) → List (List PathStep × Value)
held t old rows = flat_map (λ row. held_above t old row.0) rows

-- ---- the whole

-- an edit begins with what is there, and with nothing where the default operation is replace
abbrev pub base_of : DefaultOperation → Rows → Rows
base_of unsaid.Merge old = old
base_of unsaid.Replace old = empty
base_of unsaid.Nothing old = old

-- what has to go goes, what is held stays, and the rows that come come
abbrev pub brought_by : SchemaTree → Rows → Rows → List (List PathStep) → List (List PathStep × Value) → Rows
brought_by t old base goes rows = with_entries (with_entries (all_without (all_without base goes) (ousted t rows)) (held t old rows)) rows

-- the configuration that what is done brings about, over the one that it began from
abbrev pub brought : SchemaTree → Rows → Rows → List Act → Rows
brought t old base done = brought_by t old base (gone done) (coming done)

-- what is done to rows: the nodes that go, the rows that are held, and the rows that come
pub record RowMoves : Type 0 where
  pub goes : List (List PathStep)
  pub held : List (List PathStep × Value)
  pub comes : List (List PathStep × Value)

-- what an edit does to the rows that it begins with, by what is there
abbrev pub moves_by : SchemaTree → Rows → List Act → RowMoves
moves_by t old done = record { goes = gone done ++ ousted t (coming done); held = held t old (coming done); comes = coming done }

-- rows once nodes go, and then what is held and what comes is put
abbrev pub moved : Rows → RowMoves → Rows
moved rows moves = with_entries (with_entries (all_without rows moves.goes) moves.held) moves.comes

-- a configuration has at most 20,000 rows (this project's own)
abbrev pub limited : Rows → Result Rows Refusal
limited rows = if nat_lt row_limit (len rows) then Err (record { tag = ResourceDenied; path = [] }) else Ok rows

-- a refusal comes before what would be given
abbrev pub unless : Option Refusal → Result Rows Refusal → Result Rows Refusal
unless None given = given
unless (Some refusal) given = Err refusal

-- the configuration that an edit makes, or what it is refused for: first what is wrong at a node, then the limit on rows
abbrev pub edited_by : SchemaTree → Rows → Rows → List Act → Result Rows Refusal
edited_by t old base done = unless (first_refusal t old done) (limited (brought t old base done))

-- the configuration that an edit makes, or its refusal
abbrev pub edited_rows : SchemaTree → Rows → List EditNode → DefaultOperation → Result Rows Refusal
edited_rows t old nodes d = edited_by t old (base_of d old) (acts nodes d)

-- an answer: the edited configuration or its refusal, unless memory ran out
abbrev pub Gives : Result Rows EditFault → Result Rows Refusal → Type 0
Gives (Ok rows) given = given ≡ Ok rows
Gives (Err (Refused tag path)) given = given ≡ Err (record { tag = tag; path = path })
Gives (Err NoMemory) given = Unit {0}
