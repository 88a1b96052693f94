-- The arguments of events and requests (this project's own), in a scenario of so many change sets, devices and operators.
use Rattle.std.specs.Prelude.{ℕ, ◌^◌, ◌-◌, ◌||◌, List, min, Option, Some, None, Result, Ok, Err, codes, if◌then◌else◌}
use Rattle.std.specs.Str.{bytes_eq}
use Rattle.serde_json.specs.Data.{Data}
use Rattle.serde_json.specs.Find.{as_str}
use Rattle.nm_proto.specs.declared.message.DefaultOperation.{DefaultOperation}
use Rattle.nm_proto.specs.declared.message.DefaultOperation.TheVariants.{Merge, Replace, Nothing}
use Rattle.nm_proto.specs.declared.message.Store.{Store}
use Rattle.nm_proto.specs.declared.message.Store.TheVariants.{Running, Candidate}
use Rattle.nm_proto.specs.declared.kind.ScenarioKind.TheVariants.{BadValue}
use Rattle.nm_scenario_form.specs.declared.fault.Cause.{Cause}
use Rattle.nm_scenario_form.specs.Reading.{plain}
use Rattle.nm_scenario_form.specs.Form.{Form, leaf}
use Rattle.nm_scenario_form.specs.Leafs.{number}
use Rattle.nm_scenario_events.specs.declared.arguments.Counts.{Counts}
use Rattle.nm_scenario_events.specs.Limits.{device_limit, change_limit, operator_limit, turn_limit}

-- a change set of the scenario
abbrev pub change : Counts → Form ℕ
change c = number 1 (min c.changes change_limit)

-- a device of the scenario
abbrev pub device : Counts → Form ℕ
device c = number 1 (min c.devices device_limit)

-- an operator of the scenario
abbrev pub operator : Counts → Form ℕ
operator c = number 1 (min c.operators operator_limit)

-- the number of a link, of a reply: any of 32 bits
abbrev pub short : Form ℕ
short = number 0 (2 ^ 32 - 1)

-- how many turns a round has
abbrev pub turns : Form ℕ
turns = number 1 turn_limit

-- the number of any change set, whether the scenario has it or not
abbrev pub mark : Form ℕ
mark = number 1 change_limit

-- the default operation of a word (RFC 6241 section 7.2)
abbrev pub operation_of : Option (List ℕ) → Result DefaultOperation Cause
operation_of None = Err (plain BadValue)
operation_of (Some text) = if bytes_eq text (codes "merge") then Ok Merge else
    (if bytes_eq text (codes "replace") then Ok Replace else (if bytes_eq text (codes "none") then Ok Nothing else Err (plain BadValue)))

-- the default operation that a part says
unfoldable pub operation_said : Data → Result DefaultOperation Cause
operation_said part = operation_of (as_str part)

-- a default operation by its name
abbrev pub operation : Form DefaultOperation
operation = leaf operation_said

-- the datastore of a word; only running and candidate may be named
abbrev pub store_of : Option (List ℕ) → Result Store Cause
store_of None = Err (plain BadValue)
store_of (Some text) = if bytes_eq text (codes "running") then Ok Running else
    (if bytes_eq text (codes "candidate") then Ok Candidate else Err (plain BadValue))

-- the datastore that a part says
unfoldable pub store_said : Data → Result Store Cause
store_said part = store_of (as_str part)

-- a datastore by its name (RFC 6241 sections 7.5 and 8.3)
abbrev pub store : Form Store
store = leaf store_said
