-- The operators of a scenario: each has a user and a script (this project's own).
use Rattle.std.specs.Prelude.{ℕ, List, ◌&&◌, nat_le, length, Option, Some, None, Result, Ok, Err, codes, if◌then◌else◌}
use Rattle.std.specs.Str.{bytes_eq}
use Rattle.serde_json.specs.Data.{Data}
use Rattle.serde_json.specs.Find.{as_str}
use Rattle.nm_base.specs.Words.{manager}
use Rattle.nm_proto.specs.declared.kind.ScenarioKind.TheVariants.{NotBuilt, BadValue}
use Rattle.nm_scenario_form.specs.declared.fault.Cause.{Cause}
use Rattle.nm_scenario_form.specs.Reading.{plain}
use Rattle.nm_scenario_form.specs.Form.{Form, Parts, leaf, list, done, required, optional, closed}
use Rattle.nm_scenario_form.specs.Leafs.{one}
use Rattle.nm_scenario_events.specs.Limits.{operator_limit}
use Rattle.nm_scenario.specs.Nothing.{nothing}

-- the greatest length of a user's name, in bytes
abbrev pub user_limit : ℕ
user_limit = 64

-- the name of a user: not the manager's, and of as many bytes as it may have
abbrev pub user_in : Option (List ℕ) → Result (List ℕ) Cause
user_in None = Err (plain BadValue)
user_in (Some name) = if bytes_eq name manager then Err (plain BadValue) else
    (if nat_le 1 (length name) && nat_le (length name) user_limit then Ok name else Err (plain BadValue))

-- the name of a user that a part says
unfoldable pub user_said : Data → Result (List ℕ) Cause
user_said part = user_in (as_str part)

-- a user's name: a text that isn't empty, isn't too long and isn't the manager's own
abbrev pub user : Form (List ℕ)
user = leaf user_said

-- an operator: its user, and a script that has to be empty
abbrev pub operator_parts : Parts (List ℕ → Unit {0} → List ℕ) (List ℕ)
operator_parts = required (codes "user") user (optional (codes "script") tt (nothing NotBuilt) done)

-- one operator, by its user
abbrev pub operator_form : Form (List ℕ)
operator_form = closed operator_parts (λ user script. user)

-- the users of the operators
unfoldable pub operators_form : Form (List (List ℕ))
operators_form = list 0 operator_limit one (λ n. operator_form)
