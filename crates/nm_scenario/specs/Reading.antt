-- Reading a scenario: what it says, or the first fault (this project's own). The code reads forward once and gives what these
-- functions of the whole value do.
use Rattle.std.specs.Prelude.{ℕ, List, Result, Ok, Err, codes}
use Rattle.serde_json.specs.Data.{Data}
use Rattle.nm_schema_tree.specs.Nodes.{SchemaTree}
use Rattle.nm_schema_faults.specs.declared.fault.Fault.{Fault as SchemaFault}
use Rattle.nm_schema.specs.Built.{built_of}
use Rattle.nm_scenario_form.specs.declared.fault.Step.TheVariants.{Name, Item}
use Rattle.nm_scenario_form.specs.declared.fault.Cause.{Cause}
use Rattle.nm_scenario_form.specs.declared.fault.Fault.{Fault}
use Rattle.nm_scenario_form.specs.Reading.{◌>>=◌, under}
use Rattle.nm_scenario_form.specs.Read.{read, told}
use Rattle.nm_scenario.specs.declared.scenario.Body.{Body}
use Rattle.nm_scenario.specs.declared.scenario.Body.TheVariants as body
use Rattle.nm_scenario.specs.declared.scenario.Scenario.{Scenario}
use Rattle.nm_scenario.specs.declared.head.Head.{Head}
use Rattle.nm_scenario.specs.declared.head.Head.TheVariants as head
use Rattle.nm_scenario.specs.Flat.{cells_said, changes_said}
use Rattle.nm_scenario.specs.Yang.{data_said, nodes_said}
use Rattle.nm_scenario.specs.Head.{head_form, texts_of, statements_of}
use Rattle.nm_scenario.specs.Members.{members_form}
use Rattle.nm_scenario.specs.Scenario.{scenario_with, module_cause, module_of, whole_of}

-- the scenario of members that are written so
abbrev pub scenario_read : {C E : Type 0} → (Data → Result C Cause) → (Data → Result E Cause) → (List C → List E → Body) → Data → Result Scenario Fault
scenario_read config edit body whole = do
  members ← read (members_form config edit) whole
  Ok (scenario_with body members)

-- a fault of a module, seen from the whole
abbrev pub at_module : {A : Type 0} → SchemaFault → Result A Fault
at_module fault = under (Name (codes "modules")) (under (Item (module_of fault)) (told (Err (module_cause fault))))

-- the scenario of YANG contents by their tree, which modules of these texts give
unfoldable pub data_read : SchemaTree → List (List ℕ) → Data → Result Scenario Fault
data_read tree texts whole = scenario_read (data_said tree) (nodes_said tree) (body.Yang texts tree) whole

-- the scenario of YANG contents, where its modules give a tree, or the fault of a module
abbrev pub built_read : List (List ℕ) → Result SchemaTree SchemaFault → Data → Result Scenario Fault
built_read texts (Ok tree) whole = data_read tree texts whole
built_read texts (Err fault) whole = at_module fault

-- a scenario after this head
abbrev pub after_read : Head → Data → Result Scenario Fault
after_read head.Flat whole = scenario_read cells_said changes_said body.Flat whole
after_read (head.Yang modules) whole = built_read (texts_of modules) (built_of (statements_of modules)) whole

-- the scenario of a JSON value
unfoldable pub value_read : Data → Result Scenario Fault
value_read whole = do
  head ← read head_form whole
  after_read head whole

-- the scenario of bytes
unfoldable pub bytes_read : List ℕ → Result Scenario Fault
bytes_read bytes = do
  whole ← told (whole_of bytes)
  value_read whole
