-- Forms of parts without parts of their own (this project's own).
use Rattle.std.specs.Prelude.{ℕ, List, Bool, ◌&&◌, nat_lt, nat_le, length, Option, Some, None, Result, Ok, Err, if◌then◌else◌}
use Rattle.serde_json.specs.Data.{Data}
use Rattle.serde_json.specs.Find.{as_bool, as_str}
use Rattle.nm_proto.specs.declared.kind.ScenarioKind.TheVariants.{BadValue}
use Rattle.nm_scenario_form.specs.Reading.{natural_of, plain}
use Rattle.nm_scenario_form.specs.declared.fault.Cause.{Cause}
use Rattle.nm_scenario_form.specs.Form.{Form, leaf}

-- a number that was read, where it is in a range
abbrev pub number_from : ℕ → ℕ → Option ℕ → Result ℕ Cause
number_from low high None = Err (plain BadValue)
number_from low high (Some n) = if nat_le low n && nat_le n high then Ok n else Err (plain BadValue)

-- the number of a part, where it is in a range
unfoldable pub number_said : ℕ → ℕ → Data → Result ℕ Cause
number_said low high part = number_from low high (natural_of part)

-- a number without sign, fraction or exponent, in a range (RFC 8259 section 6)
abbrev pub number : ℕ → ℕ → Form ℕ
number low high = leaf (number_said low high)

-- a number that was read, where it is above another and at most a limit
abbrev pub above_from : ℕ → ℕ → Option ℕ → Result ℕ Cause
above_from below high None = Err (plain BadValue)
above_from below high (Some n) = if nat_lt below n && nat_le n high then Ok n else Err (plain BadValue)

-- the number of a part, where it is above another and at most a limit
unfoldable pub above_said : ℕ → ℕ → Data → Result ℕ Cause
above_said below high part = above_from below high (natural_of part)

-- a number above another, which may be any, and up to a limit
abbrev pub above : ℕ → ℕ → Form ℕ
above below high = leaf (above_said below high)

-- a switch that was read
abbrev pub switch_from : Option Bool → Result Bool Cause
switch_from None = Err (plain BadValue)
switch_from (Some on) = Ok on

-- the truth value of a part
unfoldable pub switch_said : Data → Result Bool Cause
switch_said part = switch_from (as_bool part)

-- a switch
abbrev pub switch : Form Bool
switch = leaf switch_said

-- a text that was read, where it has as many bytes as it may
abbrev pub text_from : ℕ → ℕ → Option (List ℕ) → Result (List ℕ) Cause
text_from low high None = Err (plain BadValue)
text_from low high (Some text) = if nat_le low (length text) && nat_le (length text) high then Ok text else Err (plain BadValue)

-- the text of a part, where it has as many bytes as it may
unfoldable pub text_said : ℕ → ℕ → Data → Result (List ℕ) Cause
text_said low high part = text_from low high (as_str part)

-- a text of so many bytes
abbrev pub text : ℕ → ℕ → Form (List ℕ)
text low high = leaf (text_said low high)

-- an item that weighs as much as any other
abbrev pub one : Data → ℕ
one part = 1
