-- The words of the program (this project's own).
use Rattle.std.specs.Prelude.{ℕ, List, [], ◌∷◌, map, Option, Some, None, String, string_bytes, codes, if◌then◌else◌}
use Rattle.std.specs.declared.alloc.Global.{Global}
use Rattle.std.specs.Str.{bytes_eq}
use Rattle.nm_tell.specs.declared.command.Command.{Command}
use Rattle.nm_tell.specs.declared.command.Command.TheVariants.{Explain}

-- the words as texts
abbrev pub texts_of : List (String Global) → List (List ℕ)
texts_of words = map string_bytes words

-- the command of one word
abbrev pub command_by : List ℕ → Option Command
command_by word = if bytes_eq word (codes "explain") then Some Explain else None

-- the command of all words
abbrev pub command_of : List (List ℕ) → Option Command
command_of [] = None
command_of (word ∷ []) = command_by word
command_of (word ∷ other ∷ words) = None
