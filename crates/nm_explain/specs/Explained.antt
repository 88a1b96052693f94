-- What is told of the bytes of a scenario: that nothing is wrong, or the first fault with all that its readers told (this project's own).
use Rattle.std.specs.Prelude.{◌≡◌, ℕ, List, [], ◌++◌, Bool, Option, Some, None, option_and_then, Result, Ok, Err, codes}
use Rattle.serde_json.specs.Data.{Data}
use Rattle.serde_json.specs.Find.{as_str}
use Rattle.nm_scenario_form.specs.declared.fault.Step.{Step}
use Rattle.nm_scenario_form.specs.declared.fault.Inner.{Inner}
use Rattle.nm_scenario_form.specs.declared.fault.InnerPlace.{InnerPlace}
use Rattle.nm_scenario_form.specs.declared.fault.InnerPlace.TheVariants.{Byte, Path}
use Rattle.nm_scenario_form.specs.declared.fault.Fault.{Fault}
use Rattle.nm_scenario_form.specs.Reading.{plain}
use Rattle.nm_scenario_form.specs.Line.{line_of}
use Rattle.nm_proto.specs.declared.kind.ScenarioKind.TheVariants.{TooLong}
use Rattle.nm_scenario_form.specs.Places.{walked}
use Rattle.nm_scenario.specs.declared.scenario.Scenario.{Scenario}
use Rattle.nm_scenario.specs.Scenario.{ReadsBytes, json_of}
use Rattle.nm_lines.specs.Printed.{printed}
use Rattle.nm_explain.specs.declared.status.Status.{Status}
use Rattle.nm_explain.specs.declared.status.Status.TheVariants.{Fine, Scenario as Faulty}
use Rattle.nm_explain.specs.Sentence.{of_data, asks_form}
use Rattle.nm_explain.specs.Tree.{tree_in, wanted_by}
use Rattle.nm_explain.specs.Module.{module_text}
use Rattle.nm_explain.specs.Wanted.{of_kind, at_place}

-- a status and a text
pub record Told : Type 0 where
  pub status : Status
  pub text : List ℕ

-- ---- what a lower reader told

-- the text at a place of the JSON value of bytes, where one stands there
abbrev pub text_at : List ℕ → List Step → Option (List ℕ)
text_at bytes place = option_and_then as_str (option_and_then (walked place) (json_of bytes))

-- what is told at a byte of a module's text, where the text is there
abbrev pub byte_told : Option (List ℕ) → ℕ → Inner → List ℕ
byte_told None byte inner = []
byte_told (Some text) byte inner = module_text text byte inner

-- one line: what is wrong at a path
abbrev pub at_told : List ℕ → List ℕ → List ℕ
at_told path word = codes "at " ++ printed path ++ codes ": " ++ of_data word ++ codes "\n"

-- a line with what the modules of a scenario's JSON value want at a path
abbrev pub type_in : Bool → List ℕ → Option Data → List ℕ
type_in form path None = []
type_in form path (Some whole) = wanted_by form path (tree_in whole)

-- the same of bytes, where it is asked for
abbrev pub type_told : List ℕ → List ℕ → Option Bool → List ℕ
type_told bytes path None = []
type_told bytes path (Some form) = type_in form path (json_of bytes)

-- what is wrong at a path, and where a value is, which values the modules want there
abbrev pub path_told : List ℕ → List ℕ → List ℕ → List ℕ
path_told bytes path word = at_told path word ++ type_told bytes path (asks_form word)

-- what a lower reader told: at a byte of the module's text, or at a path
abbrev pub inner_told : List ℕ → List Step → Inner → InnerPlace → List ℕ
inner_told bytes place inner (Byte byte) = byte_told (text_at bytes place) byte inner
inner_told bytes place inner (Path path) = path_told bytes path inner.what

-- what the kind means, and what may stand at the place
abbrev pub wanted_told : Fault → List ℕ
wanted_told fault = of_kind fault.cause.kind ++ codes "\n" ++ at_place fault.place ++ codes "\n"

-- what is told beside the line of a fault: what its lower reader told, or what was wanted
abbrev pub detail_told : List ℕ → Fault → Option Inner → List ℕ
detail_told bytes fault None = wanted_told fault
detail_told bytes fault (Some inner) = inner_told bytes fault.place inner inner.place

-- all that is told of a fault: its line as the program prints it, and then why
abbrev pub fault_told : List ℕ → Fault → List ℕ
fault_told bytes fault = line_of fault ++ detail_told bytes fault fault.cause.inner

-- what is told of a scenario without a fault
abbrev pub fine_told : Told
fine_told = record { status = Fine; text = codes "nothing is wrong with the scenario\n" }

-- what is told of a scenario with a fault
abbrev pub faulted : List ℕ → Fault → Told
faulted bytes fault = record { status = Faulty; text = fault_told bytes fault }

-- what is told of a scenario as it was read
abbrev pub told_of : List ℕ → Result Scenario Fault → Told
told_of bytes (Ok s) = fine_told
told_of bytes (Err fault) = faulted bytes fault

-- a status and a text are these
pub record Tells (told : Told) (status : Status) (text : List ℕ) : Type 0 where
  pub status_is : told.status ≡ status
  pub text_is : told.text ≡ text

-- what is told of an input that is longer than a scenario may be
abbrev pub too_long : Fault
too_long = record { cause = plain TooLong; place = [] }

-- what is told of an input that is too long
abbrev pub too_long_told : Told
too_long_told = record { status = Faulty; text = line_of too_long ++ wanted_told too_long }

-- a status and a text explain bytes: what is told of the scenario that they say, or of their first fault
pub record Explains (bytes : List ℕ) (status : Status) (text : List ℕ) : Type 0 where
  pub outcome : Result Scenario Fault
  pub reads : ReadsBytes bytes outcome
  pub tells : Tells (told_of bytes outcome) status text
