-- Lists that have to be empty (this project's own).
use Rattle.std.specs.Prelude.{◌==◌, Option, Some, None, Result, Ok, Err, if◌then◌else◌}
use Rattle.serde_json.specs.Data.{Data, Items}
use Rattle.serde_json.specs.Find.{as_array}
use Rattle.nm_proto.specs.declared.kind.ScenarioKind.{ScenarioKind}
use Rattle.nm_proto.specs.declared.kind.ScenarioKind.TheVariants.{BadValue}
use Rattle.nm_scenario_form.specs.declared.fault.Cause.{Cause}
use Rattle.nm_scenario_form.specs.Reading.{count_of, plain}
use Rattle.nm_scenario_form.specs.Form.{Form, leaf}

-- a list is empty, and otherwise this is wrong with it
abbrev pub nothing_of : ScenarioKind → Items → Result (Unit {0}) Cause
nothing_of otherwise items = if count_of items == 0 then Ok tt else Err (plain otherwise)

-- the same of a part that may be no list
abbrev pub nothing_in : ScenarioKind → Option Items → Result (Unit {0}) Cause
nothing_in otherwise None = Err (plain BadValue)
nothing_in otherwise (Some items) = nothing_of otherwise items

-- a part is an empty list, or what is wrong with it
unfoldable pub nothing_said : ScenarioKind → Data → Result (Unit {0}) Cause
nothing_said otherwise part = nothing_in otherwise (as_array part)

-- a list without items, and the kind of the fault of one that has any
abbrev pub nothing : ScenarioKind → Form (Unit {0})
nothing otherwise = leaf (nothing_said otherwise)
