-- The scenario of bytes: what they say, all that is wrong with them, and the first fault (this project's own). A scenario has a head,
-- modules that give a tree where it has any, and the rest by that tree. What has no meaning without one of these isn't looked at
-- where that is wrong.
use Rattle.std.specs.Prelude.{◌≡◌, ℕ, List, [], ◌∷◌, Option, Some, None, nat_lt, length, Result, Ok, Err, codes, if◌then◌else◌}
use Rattle.std.specs.Str.{is_utf8}
use Rattle.serde_json.specs.Data.{Data}
use Rattle.serde_json.specs.Read.{read}
use Rattle.nm_schema_tree.specs.Nodes.{SchemaTree}
use Rattle.nm_schema_faults.specs.declared.fault.Fault.{Fault as SchemaFault}
use Rattle.nm_schema_faults.specs.declared.fault.Fault.TheVariants.{Flawed, TooLarge}
use Rattle.nm_schema.specs.Built.{built_of}
use Rattle.nm_proto.specs.declared.kind.ScenarioKind.TheVariants as kind
use Rattle.nm_scenario_form.specs.declared.fault.Step.{Step}
use Rattle.nm_scenario_form.specs.declared.fault.Step.TheVariants.{Name, Item}
use Rattle.nm_scenario_form.specs.declared.fault.Cause.{Cause}
use Rattle.nm_scenario_form.specs.declared.fault.Fault.{Fault}
use Rattle.nm_scenario_form.specs.declared.fault.ReadError.{ReadError}
use Rattle.nm_scenario_form.specs.Reading.{plain}
use Rattle.nm_scenario_form.specs.Order.{Faults, IsFirst, Either}
use Rattle.nm_scenario_form.specs.Says.{Says}
use Rattle.nm_scenario_form.specs.Wrong.{Wrong}
use Rattle.nm_scenario_form.specs.Exact.{ReadsAs}
use Rattle.nm_scenario.specs.declared.scenario.Body.{Body}
use Rattle.nm_scenario.specs.declared.scenario.Body.TheVariants as body
use Rattle.nm_scenario.specs.declared.scenario.Scenario.{Scenario}
use Rattle.nm_scenario.specs.declared.members.Members.{Members}
use Rattle.nm_scenario.specs.declared.head.Head.{Head}
use Rattle.nm_scenario.specs.declared.head.Head.TheVariants as head
use Rattle.nm_scenario.specs.declared.numbering.Numbered.{Numbered}
use Rattle.nm_scenario.specs.Causes.{flaw_cause, large_cause}
use Rattle.nm_scenario.specs.Flat.{cells_said, changes_said}
use Rattle.nm_scenario.specs.Yang.{data_said, nodes_said}
use Rattle.nm_scenario.specs.Head.{head_form, texts_of, statements_of}
use Rattle.nm_scenario.specs.Members.{members_form}
use Rattle.nm_scenario.specs.Numbered.{numbered}

-- ---- what a value says

-- the scenario of what is numbered, with these contents
abbrev pub scenario_of : {E : Type 0} → (List E → Body) → Numbered E → Scenario
scenario_of body n = record {
  body = body n.edits;
  changes = n.changes;
  operators = n.operators;
  events = n.events;
  selects = n.selects;
  drain = n.drain;
  trace = n.trace;
  notices = n.notices;
}

-- the scenario of members, with these contents
abbrev pub scenario_with : {C E : Type 0} → (List C → List E → Body) → Members C E → Scenario
scenario_with body m = scenario_of (body m.devices) (numbered m.changes m.rest)

-- the members say the scenario, where configurations and edits are written so
pub record SaysMembers {C E : Type 0} (config : Data → Result C Cause) (edit : Data → Result E Cause) (body : List C → List E → Body) (whole : Data)
    (scenario : Scenario) : Type 0 where
  pub members : Members C E
  pub says : Says (members_form config edit) whole members
  pub is : scenario_with body members ≡ scenario

-- by the tree that modules of these texts give
abbrev pub SaysBuilt : List (List ℕ) → Result SchemaTree SchemaFault → Data → Scenario → Type 0
SaysBuilt texts (Ok tree) whole scenario = SaysMembers (data_said tree) (nodes_said tree) (body.Yang texts tree) whole scenario
SaysBuilt texts (Err fault) whole scenario = ⊥

-- after this head
abbrev pub SaysAfter : Head → Data → Scenario → Type 0
SaysAfter head.Flat whole scenario = SaysMembers cells_said changes_said body.Flat whole scenario
SaysAfter (head.Yang modules) whole scenario = SaysBuilt (texts_of modules) (built_of (statements_of modules)) whole scenario

-- what a JSON value says as a scenario: a head, and what follows after that head
pub record SaysScenario (whole : Data) (scenario : Scenario) : Type 0 where
  pub head : Head
  pub says : Says head_form whole head
  pub after : SaysAfter head whole scenario

-- ---- what is wrong with a value

-- why a module gives no tree
abbrev pub module_cause : SchemaFault → Cause
module_cause (Flawed flaw m place) = flaw_cause flaw place
module_cause (TooLarge m place) = large_cause place

-- its number
abbrev pub module_of : SchemaFault → ℕ
module_of (Flawed flaw m place) = m
module_of (TooLarge m place) = m

-- a module gives no tree
pub record WrongModule (fault : SchemaFault) (cause : Cause) (place : List Step) (spot : List ℕ) : Type 0 where
  pub cause_is : cause ≡ module_cause fault
  pub place_is : place ≡ Name (codes "modules") ∷ Item (module_of fault) ∷ []
  pub spot_is : spot ≡ 2 ∷ module_of fault ∷ []

-- what is wrong after modules: with a module, or where they give a tree with the other members
unfoldable pub WrongBuilt : Result SchemaTree SchemaFault → Data → Faults
WrongBuilt (Ok tree) whole = Wrong (members_form (data_said tree) (nodes_said tree)) whole
WrongBuilt (Err fault) whole = WrongModule fault

-- what is wrong after a head, with the members as its contents are written
unfoldable pub WrongAfter : Head → Data → Faults
WrongAfter head.Flat whole = Wrong (members_form cells_said changes_said) whole
WrongAfter (head.Yang modules) whole = WrongBuilt (built_of (statements_of modules)) whole

-- what is wrong after the head, where that says something
pub record WrongRest (whole : Data) (cause : Cause) (place : List Step) (spot : List ℕ) : Type 0 where
  pub head : Head
  pub says : Says head_form whole head
  pub wrong : WrongAfter head whole cause place spot

-- all that is wrong with a JSON value as a scenario: in its head, or after it
abbrev pub WrongScenario : Data → Faults
WrongScenario whole = Either (Wrong head_form whole) (WrongRest whole)

-- ---- bytes

-- the greatest length of a scenario, in bytes
abbrev pub byte_limit : ℕ
byte_limit = 16777216

-- the JSON value of bytes: UTF-8, and nested at most 127 deep (RFC 8259)
abbrev pub json_of : List ℕ → Option Data
json_of bytes = if is_utf8 bytes then read bytes else None

-- a JSON value, or that there is none
abbrev pub parsed : Option Data → Result Data Cause
parsed None = Err (plain kind.NotJson)
parsed (Some whole) = Ok whole

-- the JSON value of bytes that may be a scenario
unfoldable pub whole_of : List ℕ → Result Data Cause
whole_of bytes = if nat_lt byte_limit (length bytes) then Err (plain kind.TooLong) else parsed (json_of bytes)

-- what bytes say as a scenario, where they are a JSON value
abbrev pub SaysValue : Result Data Cause → Scenario → Type 0
SaysValue (Ok whole) scenario = SaysScenario whole scenario
SaysValue (Err cause) scenario = ⊥

-- a fault of the whole
pub record WrongWhole (why cause : Cause) (place : List Step) (spot : List ℕ) : Type 0 where
  pub cause_is : cause ≡ why
  pub place_is : place ≡ []
  pub spot_is : spot ≡ []

-- what is wrong with bytes: that they are no JSON value, or what is wrong with that
unfoldable pub WrongValue : Result Data Cause → Faults
WrongValue (Ok whole) = WrongScenario whole
WrongValue (Err cause) = WrongWhole cause

-- bytes say a scenario
abbrev pub SaysBytes : List ℕ → Scenario → Type 0
SaysBytes bytes = SaysValue (whole_of bytes)

-- all that is wrong with bytes as a scenario
abbrev pub WrongBytes : List ℕ → Faults
WrongBytes bytes = WrongValue (whole_of bytes)

-- bytes say this scenario, or this is their first fault
abbrev pub ReadsBytes : List ℕ → Result Scenario Fault → Type 0
ReadsBytes bytes (Ok scenario) = SaysBytes bytes scenario
ReadsBytes bytes (Err fault) = IsFirst (WrongBytes bytes) fault

-- a reader returned so. Want of memory says nothing
abbrev pub Reads : List ℕ → Result Scenario ReadError → Type 0
Reads bytes result = ReadsAs (SaysBytes bytes) (WrongBytes bytes) result
