-- What is wrong in the text of a module, with its line (this project's own).
use Rattle.std.specs.Prelude.{ℕ, ◌+◌, List, [], ◌++◌, take, drop, Option, Some, None, Result, Ok, Err, codes, decimal}
use Rattle.nm_yang.specs.Tree.{Tree, statement}
use Rattle.nm_yang.specs.Module.{reading}
use Rattle.nm_yang.specs.declared.fault.Fault.{Fault as TextFault}
use Rattle.nm_scenario_form.specs.declared.fault.Inner.{Inner}
use Rattle.nm_lines.specs.Printed.{printed}
use Rattle.nm_explain.specs.Lines.{line_after, last_line, rest_of_line, characters, blanks}
use Rattle.nm_explain.specs.Sentence.{of_module}

-- the name that a module's text gives it, where that can be read (RFC 7950 section 7.1)
abbrev pub name_in : Result Tree TextFault → Option (List ℕ)
name_in (Err fault) = None
name_in (Ok (statement keyword argument place below)) = argument

-- a module by its name, where that is known
abbrev pub named : Option (List ℕ) → List ℕ
named None = codes "module"
named (Some name) = codes "module" ++ codes " " ++ printed name

-- a word behind a colon, where there is one
abbrev pub about_text : Option (List ℕ) → List ℕ
about_text None = []
about_text (Some word) = codes ": " ++ printed word

-- the line and the column of what follows these bytes
abbrev pub spot_text : List ℕ → List ℕ
spot_text front = codes ", line " ++ decimal (line_after front) ++ codes ", column " ++ decimal (characters (last_line front) + 1) ++ codes ": "

-- the line that two parts of a text meet in, as it is printed, and a caret below where they do
abbrev pub line_text : List ℕ → List ℕ → List ℕ
line_text front behind =
    printed (last_line front) ++ printed (rest_of_line behind) ++ codes "\n" ++ blanks (printed (last_line front)) ++ codes "^\n"

-- why, and what it is about
abbrev pub why_text : Inner → List ℕ
why_text inner = of_module inner.what ++ about_text inner.about ++ codes "\n"

-- what is wrong behind the front of a module's text that can be read so
abbrev pub split_text : Option (List ℕ) → List ℕ → List ℕ → Inner → List ℕ
split_text name front behind inner = (named name ++ spot_text front) ++ why_text inner ++ line_text front behind

-- what is wrong at a byte of a module's text
abbrev pub module_text : List ℕ → ℕ → Inner → List ℕ
module_text text byte inner = split_text (name_in (reading text)) (take byte text) (drop byte text) inner
