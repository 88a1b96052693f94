-- What the readers of modules, configurations and edits tell, as causes of a scenario's faults: each keeps the lower reader's own
-- word for its fault, and the place that it told (this project's own).
use Rattle.std.specs.Prelude.{ℕ, List, Option, Some, None, codes}
use Rattle.nm_base.specs.declared.tag.Tag.{Tag}
use Rattle.nm_base.specs.declared.tag.Tag.TheVariants.{ResourceDenied}
use Rattle.nm_base.specs.Tag.{tag_text}
use Rattle.nm_yang.specs.declared.fault.YangKind.{YangKind}
use Rattle.nm_yang.specs.declared.fault.YangKind.TheVariants.{UnclosedQuote, UnclosedComment, UnclosedBrace, BadEscape, BadKeyword, BadToken, NotModule, Trailing, NotUtf8, TooLong, TooDeep}
use Rattle.nm_yang.specs.declared.fault.Fault.{Fault as TextFault}
use Rattle.nm_schema_statements.specs.declared.flaw.Flaw.{Flaw}
use Rattle.nm_schema_statements.specs.declared.flaw.Flaw.TheVariants as flaw
use Rattle.nm_json.specs.declared.fault.JsonKind.{JsonKind}
use Rattle.nm_json.specs.declared.fault.JsonKind.TheVariants as json
use Rattle.nm_proto.specs.Content.{Refusal}
use Rattle.nm_proto.specs.declared.kind.ScenarioKind.{ScenarioKind}
use Rattle.nm_proto.specs.declared.kind.ScenarioKind.TheVariants.{TooMany, Yang, Schema, Content}
use Rattle.nm_scenario_form.specs.declared.fault.Cause.{Cause}
use Rattle.nm_scenario_form.specs.declared.fault.InnerPlace.{InnerPlace}
use Rattle.nm_scenario_form.specs.declared.fault.InnerPlace.TheVariants.{Byte, Path}
use Rattle.nm_scenario_form.specs.Reading.{plain}

-- a fault of a kind, with what a lower reader told: its word, what it is about, and the place
abbrev pub caused : ScenarioKind → List ℕ → Option (List ℕ) → InnerPlace → Cause
caused kind what about place =
    record { kind = kind; inner = Some (record { what = what; about = about; place = place }) }

-- ---- modules

-- why the text of a module can't be read, as a word (RFC 7950 section 6)
abbrev pub text_word : YangKind → List ℕ
text_word UnclosedQuote = codes "unclosed-quote"
text_word UnclosedComment = codes "unclosed-comment"
text_word UnclosedBrace = codes "unclosed-brace"
text_word BadEscape = codes "bad-escape"
text_word BadKeyword = codes "bad-keyword"
text_word BadToken = codes "bad-token"
text_word NotModule = codes "not-module"
text_word Trailing = codes "trailing"
text_word NotUtf8 = codes "not-utf8"
text_word TooLong = codes "too-long"
text_word TooDeep = codes "too-deep"

-- the text of a module can't be read from a byte on
abbrev pub text_cause : TextFault → Cause
text_cause fault = caused Yang (text_word fault.kind) None (Byte fault.place)

-- what is wrong with a statement, as a word (RFC 7950)
abbrev pub flaw_word : Flaw → List ℕ
flaw_word (flaw.Unsupported name) = codes "unsupported"
flaw_word (flaw.Unknown name) = codes "unknown"
flaw_word (flaw.Duplicate name) = codes "duplicate"
flaw_word (flaw.BadReference name) = codes "bad-reference"
flaw_word (flaw.BadArgument name) = codes "bad-argument"
flaw_word (flaw.Cycle name) = codes "cycle"

-- the keyword or the name that is wrong in it
abbrev pub flaw_name : Flaw → List ℕ
flaw_name (flaw.Unsupported name) = name
flaw_name (flaw.Unknown name) = name
flaw_name (flaw.Duplicate name) = name
flaw_name (flaw.BadReference name) = name
flaw_name (flaw.BadArgument name) = name
flaw_name (flaw.Cycle name) = name

-- the statement at a byte of a module is flawed
abbrev pub flaw_cause : Flaw → ℕ → Cause
flaw_cause found place = caused Schema (flaw_word found) (Some (flaw_name found)) (Byte place)

-- the module whose statement is at this byte makes the tree too large
abbrev pub large_cause : ℕ → Cause
large_cause place = caused Schema (codes "too-large") None (Byte place)

-- ---- configurations and edits

-- what is wrong with a part of a configuration, as a word (RFC 7951)
abbrev pub data_word : JsonKind → List ℕ
data_word json.Unknown = codes "unknown"
data_word json.BadForm = codes "bad-form"
data_word json.BadValue = codes "bad-value"
data_word json.MissingKey = codes "missing-key"
data_word json.Repeated = codes "repeated"

-- a configuration can't be read at a path
abbrev pub data_cause : JsonKind → List ℕ → Cause
data_cause found path = caused Content (data_word found) None (Path path)

-- a configuration or an edit is refused at a path, with an error tag (RFC 6241 appendix A)
abbrev pub refusal_cause : ScenarioKind → Refusal → Cause
refusal_cause kind refusal = caused kind (tag_text refusal.tag) None (Path refusal.path)

-- the cause of a refused edit: one for want of room counts as too many nodes
abbrev pub edit_cause_by : Tag → Refusal → Cause
edit_cause_by ResourceDenied refusal = plain TooMany
edit_cause_by _ refusal = refusal_cause Content refusal

-- an edit with too many nodes, or one that can't be read at a path
abbrev pub edit_cause : Refusal → Cause
edit_cause refusal = edit_cause_by refusal.tag refusal
