-- The words of the program (this project's own).
use Rattle.std.specs.Prelude.{ℕ, ◌&&◌, ◌-◌, ◌==◌, List, [], ◌∷◌, map, length, take, drop, slice_get, nat_le, Bool, true, false, not, Option, Some, None, is_some, String, string_bytes, codes, if◌then◌else◌}
use Rattle.std.specs.declared.alloc.Global.{Global}
use Rattle.std.specs.Str.{bytes_eq}
use Rattle.nm_console.specs.declared.command.Command.{Command}
use Rattle.nm_console.specs.declared.command.Command.TheVariants.{Check, Replay, Journal}

-- the words as texts
abbrev pub texts_of : List (String Global) → List (List ℕ)
texts_of words = map string_bytes words

-- ---- the file of a journal

-- the option that names it, and the same joined to its value
abbrev pub option_word : List ℕ
option_word = codes "--journal"

-- the option that names the journal, joined to its value
abbrev pub option_prefix : List ℕ
option_prefix = codes "--journal="

-- it is this byte
abbrev pub is_byte : Option ℕ → ℕ → Bool
is_byte None byte = false
is_byte (Some other) byte = other == byte

-- `-` and `=`
abbrev pub begins_with_dash : List ℕ → Bool
begins_with_dash word = is_byte (slice_get word 0) 45

-- a word ends with `=`
abbrev pub ends_with_equals : List ℕ → Bool
ends_with_equals word = is_byte (slice_get word (length word - 1)) 61

-- a file has a name of 1 to 4096 bytes that doesn't end with `=`
abbrev pub is_file : List ℕ → Bool
is_file name = nat_le 1 (length name) && (nat_le (length name) 4096 && not (ends_with_equals name))

-- a name, where it may be that of a file
abbrev pub if_file : List ℕ → Option (List ℕ)
if_file name = if is_file name then Some name else None

-- joined to its option
abbrev pub joined_file : List ℕ → Option (List ℕ)
joined_file word = if bytes_eq (take 10 word) option_prefix then if_file (drop 10 word) else None

-- as a word of its own, which doesn't begin with `-`
abbrev pub named_file : List ℕ → List ℕ → Option (List ℕ)
named_file option name = if bytes_eq option option_word && not (begins_with_dash name) then if_file name else None

-- the file that the words after a command name
abbrev pub file_in : List (List ℕ) → Option (List ℕ)
file_in [] = None
file_in (word ∷ []) = joined_file word
file_in (option ∷ name ∷ []) = named_file option name
file_in (option ∷ name ∷ other ∷ words) = None

-- ---- commands

-- a command without a file, and one with a file
abbrev pub alone : List ℕ → Option Command
alone word = if bytes_eq word (codes "check") then Some Check else (if bytes_eq word (codes "replay") then Some Replay else None)

-- a command that takes a file, where one is named
abbrev pub with_file : List ℕ → Bool → Option Command
with_file word named =
    if named && bytes_eq word (codes "journal") then Some Journal else (
    if named && bytes_eq word (codes "replay") then Some Replay else None)

-- the command of the words after the program's name; any list that isn't named here is refused
abbrev pub command_of : List (List ℕ) → Option Command
command_of [] = None
command_of (word ∷ []) = alone word
command_of (word ∷ option ∷ options) = with_file word (is_some (file_in (option ∷ options)))

-- the file of the journal, where the words are words of the program and name one
abbrev pub file_if : Bool → List (List ℕ) → Option (List ℕ)
file_if known [] = None
file_if known (word ∷ options) = if known then file_in options else None

-- the file of the journal that the words name
abbrev pub file_of : List (List ℕ) → Option (List ℕ)
file_of words = file_if (is_some (command_of words)) words

-- the command reads its input
abbrev pub reads_input : Option Command → Bool
reads_input None = false
reads_input (Some Check) = true
reads_input (Some Replay) = true
reads_input (Some Journal) = false

-- the command runs a world
abbrev pub is_replay : Option Command → Bool
is_replay None = false
is_replay (Some Check) = false
is_replay (Some Replay) = true
is_replay (Some Journal) = false

-- the command uses its journal
abbrev pub uses_journal : Option Command → Bool
uses_journal None = false
uses_journal (Some Check) = false
uses_journal (Some Replay) = true
uses_journal (Some Journal) = true
