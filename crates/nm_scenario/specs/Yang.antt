-- Configurations and edits of YANG data in a scenario (RFC 7951), by the schema tree of its modules (this project's own).
use Rattle.std.specs.Prelude.{List, [], ◌∷◌, Bool, true, false, Option, Some, None, Result, Ok, Err}
use Rattle.serde_json.specs.Data.{Data}
use Rattle.nm_proto.specs.Content.{Refusal}
use Rattle.nm_proto.specs.declared.kind.ScenarioKind.TheVariants.{TooMany, Content, Invalid}
use Rattle.nm_schema_tree.specs.Nodes.{SchemaTree}
use Rattle.nm_config.specs.Rows.{Rows}
use Rattle.nm_config.specs.Under.{has_under}
use Rattle.nm_json.specs.declared.fault.JsonFault.{JsonFault}
use Rattle.nm_json.specs.declared.fault.JsonFault.TheVariants.{NotJson, Bad, TooManyRows, NoMemory}
use Rattle.nm_json.specs.Whole.{config_read}
use Rattle.nm_validate.specs.Told.{violation_told}
use Rattle.nm_edit.specs.declared.edit.EditNode.{EditNode}
use Rattle.nm_edit_json.specs.Whole.{edit_read}
use Rattle.nm_content.specs.Mark.{changes_step}
use Rattle.nm_scenario_form.specs.declared.fault.Cause.{Cause}
use Rattle.nm_scenario_form.specs.Reading.{plain}
use Rattle.nm_scenario.specs.Causes.{data_cause, refusal_cause, edit_cause}

-- ---- running configurations

-- a configuration holds marks of change sets
unfoldable pub holds_marks : Rows → Bool
holds_marks rows = has_under rows (changes_step ∷ [])

-- rows without marks that are valid
abbrev pub valid_rows : Rows → Bool → Option Refusal → Result Rows Cause
valid_rows rows true violation = Err (plain Invalid)
valid_rows rows false None = Ok rows
valid_rows rows false (Some refusal) = Err (refusal_cause Invalid refusal)

-- what reading data answers, as a part of a scenario: any fault of it is one of the whole configuration, and only where there
-- is none the count of its rows. What is read of a value is never told as no JSON or as want of memory
abbrev pub rows_from : SchemaTree → Result Rows JsonFault → Result Rows Cause
rows_from tree (Ok rows) = valid_rows rows (holds_marks rows) (violation_told tree rows)
rows_from tree (Err (Bad kind path)) = Err (data_cause kind path)
rows_from tree (Err TooManyRows) = Err (plain TooMany)
rows_from tree (Err NotJson) = Err (plain Content)
rows_from tree (Err NoMemory) = Err (plain Content)

-- a running configuration of data by a schema: valid, and without marks
unfoldable pub data_said : SchemaTree → Data → Result Rows Cause
data_said tree part = rows_from tree (config_read tree part)

-- ---- edits

-- the nodes of an edit, or the cause of its refusal
abbrev pub nodes_from : Result (List EditNode) Refusal → Result (List EditNode) Cause
nodes_from (Ok nodes) = Ok nodes
nodes_from (Err refusal) = Err (edit_cause refusal)

-- an edit of data by a schema
unfoldable pub nodes_said : SchemaTree → Data → Result (List EditNode) Cause
nodes_said tree part = nodes_from (edit_read tree part)
