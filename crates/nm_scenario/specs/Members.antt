-- The members of a scenario after its head, where its configurations and edits are written so: a table of one line for each
-- (this project's own).
use Rattle.std.specs.Prelude.{ℕ, List, [], Bool, false, ◌||◌, Result, codes}
use Rattle.std.specs.Str.{bytes_eq}
use Rattle.serde_json.specs.Data.{Data}
use Rattle.nm_proto.specs.declared.kind.ScenarioKind.TheVariants.{NotBuilt}
use Rattle.nm_scenario_form.specs.declared.fault.Cause.{Cause}
use Rattle.nm_scenario_form.specs.Form.{Form, Parts, leaf, by, object, done, required, optional}
use Rattle.nm_scenario_form.specs.Leafs.{switch}
use Rattle.nm_scenario_events.specs.declared.arguments.Counts.{Counts}
use Rattle.nm_scenario_events.specs.declared.event.ReadEvent.{ReadEvent}
use Rattle.nm_scenario_events.specs.Events.{events_form}
use Rattle.nm_scenario.specs.declared.members.Members.{Members}
use Rattle.nm_scenario.specs.declared.scenario.ReadChange.{ReadChange}
use Rattle.nm_scenario.specs.Counts.{counts_of}
use Rattle.nm_scenario.specs.Nothing.{nothing}
use Rattle.nm_scenario.specs.Devices.{devices_form}
use Rattle.nm_scenario.specs.Changes.{changes_form}
use Rattle.nm_scenario.specs.Operators.{operators_form}

-- the members of a scenario, those of its head among them
abbrev pub knows_scenario : List ℕ → Bool
knows_scenario name =
    bytes_eq name (codes "netm") || bytes_eq name (codes "contents") || bytes_eq name (codes "modules")
    || bytes_eq name (codes "devices") || bytes_eq name (codes "changes") || bytes_eq name (codes "operators")
    || bytes_eq name (codes "faults") || bytes_eq name (codes "events") || bytes_eq name (codes "drain") || bytes_eq name (codes "trace")
    || bytes_eq name (codes "notices")

-- what makes members of what each says. No faults of links are built
abbrev pub Makes : Type 0 → Type 0 → Type 0
Makes C E = List C → List (ReadChange E) → List (List ℕ) → Unit {0} → List (ReadEvent E) → Bool → Bool → Bool → Members C E

-- the members of a scenario from what each of them says
abbrev pub makes : {C E : Type 0} → Makes C E
makes devices changes operators faults events drain trace notices = record {
  devices = devices;
  changes = changes;
  rest = record { operators = operators; events = events; drain = drain; trace = trace; notices = notices };
}

-- the members, in a scenario of so many change sets, devices and operators
abbrev pub member_parts : {C E : Type 0} → (Data → Result C Cause) → (Data → Result E Cause) → Counts → Parts (Makes C E) (Members C E)
member_parts config edit counts =
    required (codes "devices") (devices_form config)
    (optional (codes "changes") [] (changes_form (leaf edit) counts.devices)
    (optional (codes "operators") [] operators_form
    (optional (codes "faults") tt (nothing NotBuilt)
    (optional (codes "events") [] (events_form (leaf edit) counts)
    (optional (codes "drain") false switch
    (optional (codes "trace") false switch
    (optional (codes "notices") false switch done)))))))

-- the counts are those of the members as they stand there, whatever is wrong with them
unfoldable pub members_form : {C E : Type 0} → (Data → Result C Cause) → (Data → Result E Cause) → Form (Members C E)
members_form config edit = by (λ whole. object knows_scenario (member_parts config edit (counts_of whole)) makes)
