-- Where the places of faults lead (this project's own).
use Rattle.std.specs.Prelude.{◌≡◌, ℕ, List, [], Result, Ok, Err}
use Rattle.serde_json.specs.Data.{Data}
use Rattle.nm_scenario_form.specs.declared.fault.Cause.{Cause}
use Rattle.nm_scenario_form.specs.declared.fault.Fault.{Fault}
use Rattle.nm_scenario_form.specs.Places.{IsPlace}
use Rattle.nm_scenario.specs.Scenario.{whole_of}

-- the place of a fault leads to a part of the JSON value; where bytes are none, it is that of the whole
abbrev pub IsPlacedIn : Result Data Cause → Fault → Type 0
IsPlacedIn (Ok whole) fault = IsPlace fault.cause.kind fault.place whole
IsPlacedIn (Err cause) fault = fault.place ≡ []

-- the place of a fault leads to a part of what bytes are, or to a member that isn't there; without a JSON value it is the whole
abbrev pub IsPlaced : List ℕ → Fault → Type 0
IsPlaced bytes fault = IsPlacedIn (whole_of bytes) fault
