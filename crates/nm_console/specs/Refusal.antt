-- What the program says where its words or its input are refused (this project's own): one line, with a newline.
use Rattle.std.specs.Prelude.{ℕ, List, [], ◌++◌, codes, decimal}
use Rattle.nm_proto.specs.declared.kind.ScenarioKind.{ScenarioKind}
use Rattle.nm_scenario_form.specs.declared.fault.Fault.{Fault}
use Rattle.nm_scenario_form.specs.Reading.{plain}

-- what the words of the program are
abbrev pub usage_text : List ℕ
usage_text = codes "usage: netm check, replay, run, make, stress, journal\n"

-- a fault of the whole input
abbrev pub of_whole : ScenarioKind → Fault
of_whole kind = record { cause = plain kind; place = [] }

-- a place in a journal, or how many bytes it has, at the end of a line
abbrev pub offset_text : ℕ → List ℕ
offset_text offset = decimal offset ++ codes "\n"

-- the line of a damaged journal, with the place of the first byte of the record that can't be read
abbrev pub damaged_text : ℕ → List ℕ
damaged_text offset = codes "journal damaged " ++ offset_text offset

-- the line of a journal that holds so many bytes, where an empty one is wanted
abbrev pub not_empty_text : ℕ → List ℕ
not_empty_text size = codes "journal not empty " ++ offset_text size
