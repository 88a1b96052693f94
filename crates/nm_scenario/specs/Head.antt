-- What comes first in a scenario: its version, the form of its contents and its modules (this project's own).
use Rattle.std.specs.Prelude.{ℕ, List, [], Bool, true, false, ◌||◌, map, Option, Some, None, option_and_then, Result, Ok, Err, codes, if◌then◌else◌}
use Rattle.std.specs.Str.{bytes_eq}
use Rattle.serde_json.specs.Data.{Data}
use Rattle.serde_json.specs.Find.{get, as_str}
use Rattle.nm_yang.specs.Tree.{Tree}
use Rattle.nm_yang.specs.Module.{reading}
use Rattle.nm_yang.specs.declared.fault.Fault.{Fault as TextFault}
use Rattle.nm_proto.specs.declared.kind.ScenarioKind.TheVariants.{BadValue}
use Rattle.nm_scenario_form.specs.declared.fault.Cause.{Cause}
use Rattle.nm_scenario_form.specs.Reading.{plain}
use Rattle.nm_scenario_form.specs.Form.{Form, Parts, leaf, by, list, object, done, required, optional, chosen}
use Rattle.nm_scenario_form.specs.Leafs.{number, one}
use Rattle.nm_scenario.specs.declared.head.Head.{Head}
use Rattle.nm_scenario.specs.declared.head.Head.TheVariants.{Flat, Yang}
use Rattle.nm_scenario.specs.declared.head.ReadModule.{ReadModule}
use Rattle.nm_scenario.specs.Causes.{text_cause}
use Rattle.nm_scenario.specs.Nothing.{nothing}

-- ---- the form of the contents

-- there is a text, and it is this word
abbrev pub is_text : List ℕ → Option (List ℕ) → Bool
is_text word None = false
is_text word (Some text) = bytes_eq text word

-- a member is this word
abbrev pub has_word : List ℕ → List ℕ → Data → Bool
has_word name word whole = is_text word (option_and_then as_str (get name whole))

-- the form of contents that a word names: `flat` or `yang`
abbrev pub contents_in : Option (List ℕ) → Result (Unit {0}) Cause
contents_in None = Err (plain BadValue)
contents_in (Some word) = if bytes_eq word (codes "flat") || bytes_eq word (codes "yang") then Ok tt else Err (plain BadValue)

-- the form of contents that a part names
unfoldable pub contents_said : Data → Result (Unit {0}) Cause
contents_said part = contents_in (as_str part)

-- one of the two words
abbrev pub contents : Form (Unit {0})
contents = leaf contents_said

-- ---- modules

-- the greatest number of modules
abbrev pub module_limit : ℕ
module_limit = 16

-- a module with its statement, or why its text can't be read
abbrev pub module_read : List ℕ → Result Tree TextFault → Result ReadModule Cause
module_read text (Ok tree) = Ok (record { text = text; statement = tree })
module_read text (Err fault) = Err (text_cause fault)

-- a module by its text; what is no text is a bad value
abbrev pub module_in : Option (List ℕ) → Result ReadModule Cause
module_in None = Err (plain BadValue)
module_in (Some text) = module_read text (reading text)

-- the module of a part
unfoldable pub module_said : Data → Result ReadModule Cause
module_said part = module_in (as_str part)

-- the texts of modules (RFC 7950 section 6); all are read before any of them is looked into
unfoldable pub modules_form : Form (List ReadModule)
modules_form = list 0 module_limit one (λ n. leaf module_said)

-- the text of a module
abbrev pub text_of : ReadModule → List ℕ
text_of m = m.text

-- the statement of a module
abbrev pub statement_of : ReadModule → Tree
statement_of m = m.statement

-- the texts of modules, in their order
abbrev pub texts_of : List ReadModule → List (List ℕ)
texts_of modules = map text_of modules

-- the statements of modules, in their order
abbrev pub statements_of : List ReadModule → List Tree
statements_of modules = map statement_of modules

-- ---- the head

-- what else there is is looked at later
abbrev pub any_name : List ℕ → Bool
any_name name = true

-- where the contents are of no known form, that alone is looked at
abbrev pub plain_parts : Parts (ℕ → Unit {0} → Head) Head
plain_parts = required (codes "netm") (number 1 1) (required (codes "contents") contents done)

-- flat contents have no modules
abbrev pub flat_parts : Parts (ℕ → Unit {0} → Unit {0} → Head) Head
flat_parts =
    required (codes "netm") (number 1 1)
    (required (codes "contents") contents
    (optional (codes "modules") tt (nothing BadValue) done))

-- YANG contents may have modules; without the member there are none
abbrev pub yang_parts : Parts (ℕ → Unit {0} → List ReadModule → Head) Head
yang_parts =
    required (codes "netm") (number 1 1)
    (required (codes "contents") contents
    (optional (codes "modules") [] modules_form done))

-- an object of version 1, the form of its contents and the modules of YANG contents
unfoldable pub head_form : Form Head
head_form = by (λ whole.
    chosen (has_word (codes "contents") (codes "yang") whole) (object any_name yang_parts (λ version contents modules. Yang modules))
    (chosen (has_word (codes "contents") (codes "flat") whole) (object any_name flat_parts (λ version contents modules. Flat))
    (object any_name plain_parts (λ version contents. Flat))))
