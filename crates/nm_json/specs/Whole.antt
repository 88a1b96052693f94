-- The configuration that a JSON value holds, or its least fault (this project's own).
use Rattle.std.specs.Prelude.{◌≡◌, ℕ, List, [], ◌∷◌, fold, nat_lt, Bool, true, false, Option, Some, None, is_some, Result, Ok, Err, if◌then◌else◌}
use Rattle.std.specs.FinMap.{insert, get, empty, len}
use Rattle.std.specs.Str.{is_utf8}
use Rattle.serde_json.specs.Data.{Data}
use Rattle.serde_json.specs.Read.{read}
use Rattle.nm_schema_tree.specs.Nodes.{SchemaTree}
use Rattle.nm_json.specs.declared.fault.JsonFault.{JsonFault}
use Rattle.nm_json.specs.declared.fault.JsonFault.TheVariants.{NotJson, Bad, TooManyRows, NoMemory}
use Rattle.nm_types.specs.Path.{PathStep}
use Rattle.nm_config.specs.Rows.{Rows}
use Rattle.nm_json.specs.declared.fault.JsonKind.TheVariants.{Repeated}
use Rattle.nm_json.specs.declared.fault.Fault.{Fault}
use Rattle.nm_json.specs.Places.{lesser, place_text}
use Rattle.nm_json.specs.Findings.{Finding, row, bad, fault_at, whole_found}

-- the rows among findings, behind others, as a map
abbrev pub rows_of : Rows → List Finding → Rows
rows_of rows [] = rows
rows_of rows (row path value ∷ findings) = rows_of (insert rows path value) findings
rows_of rows (bad fault ∷ findings) = rows_of rows findings

-- a row's path is repeated, before other faults
abbrev pub if_repeated : Bool → List PathStep → List Fault → List Fault
if_repeated true path faults = fault_at path Repeated ∷ faults
if_repeated false path faults = faults

-- the faults among findings, and that a row is repeated where there is one with its path before it
abbrev pub faults_found : Rows → List Finding → List Fault
faults_found rows [] = []
faults_found rows (row path value ∷ findings) = if_repeated (is_some (get rows path)) path (faults_found (insert rows path value) findings)
faults_found rows (bad fault ∷ findings) = fault ∷ faults_found rows findings

-- the least of faults; `specs/Laws.antt` says what that is
abbrev pub least_of : List Fault → Option Fault
least_of faults = fold lesser None faults

-- how many rows a configuration may have
abbrev pub row_limit : ℕ
row_limit = 20000

-- the configuration of the rows, unless there is a fault, or too many of them
abbrev pub answered : SchemaTree → Option Fault → Rows → Result Rows JsonFault
answered t (Some f) rows = Err (Bad f.kind (place_text t f.place))
answered t None rows = if nat_lt row_limit (len rows) then Err TooManyRows else Ok rows

-- the configuration that a JSON value holds by a schema, or its least fault
abbrev pub config_read : SchemaTree → Data → Result Rows JsonFault
config_read t d = answered t (least_of (faults_found empty (whole_found t d))) (rows_of empty (whole_found t d))

-- the value of bytes that are JSON (RFC 8259)
unfoldable pub json_of : List ℕ → Option Data
json_of bytes = if is_utf8 bytes then read bytes else None

-- the configuration of what a text is, if it is JSON
abbrev pub from_json : SchemaTree → Option Data → Result Rows JsonFault
from_json t None = Err NotJson
from_json t (Some d) = config_read t d

-- the configuration of a JSON text, or its fault
abbrev pub text_read : SchemaTree → List ℕ → Result Rows JsonFault
text_read t text = from_json t (json_of text)

-- an answer is what reading gives, unless memory ran out
abbrev pub Gives : Result Rows JsonFault → Result Rows JsonFault → Type 0
Gives (Ok rows) given = given ≡ Ok rows
Gives (Err NotJson) given = given ≡ Err NotJson
Gives (Err (Bad kind path)) given = given ≡ Err (Bad kind path)
Gives (Err TooManyRows) given = given ≡ Err TooManyRows
Gives (Err NoMemory) given = Unit {0}
