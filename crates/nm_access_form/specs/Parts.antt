-- The names and actions of rules, and what rules are about (RFC 8341 section 3.2).
use Rattle.std.specs.Prelude.{ℕ, List, Option, Some, None, Result, Ok, Err, codes, if◌then◌else◌}
use Rattle.std.specs.Str.{bytes_eq}
use Rattle.serde_json.specs.Data.{Data}
use Rattle.serde_json.specs.Find.{as_str}
use Rattle.nm_access.specs.declared.rule.Action.{Action}
use Rattle.nm_access.specs.declared.rule.Action.TheVariants.{Permit, Deny}
use Rattle.nm_access.specs.declared.rule.Target.{Target}
use Rattle.nm_access.specs.declared.rule.Target.TheVariants.{Everything, Module, AnyOperation, Operation}
use Rattle.nm_proto.specs.declared.kind.ScenarioKind.TheVariants.{BadValue}
use Rattle.nm_scenario_form.specs.declared.fault.Cause.{Cause}
use Rattle.nm_scenario_form.specs.Reading.{plain}
use Rattle.nm_scenario_form.specs.Form.{Form, leaf}

-- ---- names

-- any text
abbrev pub text_in : Option (List ℕ) → Result (List ℕ) Cause
text_in None = Err (plain BadValue)
text_in (Some text) = Ok text

-- the text of a part
unfoldable pub any_text_said : Data → Result (List ℕ) Cause
any_text_said part = text_in (as_str part)

-- a text of any length, which may name nothing and come twice
abbrev pub any_text : Form (List ℕ)
any_text = leaf any_text_said

-- ---- actions

-- the action of a word
abbrev pub action_in : Option (List ℕ) → Result Action Cause
action_in None = Err (plain BadValue)
action_in (Some word) = if bytes_eq word (codes "permit") then Ok Permit else
    (if bytes_eq word (codes "deny") then Ok Deny else Err (plain BadValue))

-- the action that a part names
unfoldable pub action_said : Data → Result Action Cause
action_said part = action_in (as_str part)

-- an action by its word
abbrev pub action : Form Action
action = leaf action_said

-- ---- what a rule is about

-- a module by its name; `*` is all that there is
abbrev pub module_of : List ℕ → Target
module_of name = if bytes_eq name (codes "*") then Everything else Module name

-- an operation by its name; `*` is all of them
abbrev pub operation_of : List ℕ → Target
operation_of name = if bytes_eq name (codes "*") then AnyOperation else Operation name
