-- The devices of a scenario: each is an object with its running configuration, which is written as the contents are (this
-- project's own).
use Rattle.std.specs.Prelude.{List, Result, codes}
use Rattle.serde_json.specs.Data.{Data}
use Rattle.nm_scenario_form.specs.declared.fault.Cause.{Cause}
use Rattle.nm_scenario_form.specs.Form.{Form, Parts, leaf, list, done, required, closed}
use Rattle.nm_scenario_form.specs.Leafs.{one}
use Rattle.nm_scenario_events.specs.Limits.{device_limit}

-- the members of a device: its running configuration, which has to be there
abbrev pub device_parts : {C : Type 0} → (Data → Result C Cause) → Parts (C → C) C
device_parts config = required (codes "running") (leaf config) done

-- one device
abbrev pub device_form : {C : Type 0} → (Data → Result C Cause) → Form C
device_form config = closed (device_parts config) (λ running. running)

-- one device or more
unfoldable pub devices_form : {C : Type 0} → (Data → Result C Cause) → Form (List C)
devices_form config = list 1 device_limit one (λ n. device_form config)
