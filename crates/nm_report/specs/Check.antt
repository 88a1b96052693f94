-- The text of a scenario that was checked (this project's own): what it holds, counted. Each line ends with one newline.
use Rattle.std.specs.Prelude.{ℕ, ◌+◌, List, [], ◌∷◌, ◌++◌, codes, decimal}
use Rattle.std.specs.List.{flat_map}

-- a module that is given, by its name
abbrev pub module_line : List ℕ → List ℕ
module_line name = codes "module " ++ name ++ codes "\n"

-- the modules that are given, in their order
abbrev pub module_lines : List (List ℕ) → List ℕ
module_lines names = flat_map module_line names

-- a device and how many rows its running configuration has
abbrev pub device_line : ℕ → ℕ → List ℕ
device_line device rows = codes "device " ++ decimal device ++ codes " rows " ++ decimal rows ++ codes "\n"

-- the devices from a number on, whose rows are counted
abbrev pub device_lines : ℕ → List ℕ → List ℕ
device_lines device [] = []
device_lines device (rows ∷ others) = device_line device rows ++ device_lines (device + 1) others

-- how many change sets, operators and events there are
abbrev pub counts_line : ℕ → ℕ → ℕ → List ℕ
counts_line changes operators events =
    codes "changes " ++ decimal changes ++ codes " operators " ++ decimal operators ++ codes " events " ++ decimal events ++ codes "\n"

-- the text of a scenario with these modules, these rows of its devices, and so many change sets, operators and events
abbrev pub check_text : List (List ℕ) → List ℕ → ℕ → ℕ → ℕ → List ℕ
check_text modules rows changes operators events = codes "netm check 1\n" ++ module_lines modules ++ device_lines 1 rows ++ counts_line changes operators events
