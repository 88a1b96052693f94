-- Lines and columns of a text (this project's own). A line ends with a line feed; columns count characters from 1, and a tab is one.
use Rattle.std.specs.Prelude.{ℕ, ◌+◌, List, [], ◌∷◌, ◌++◌, Bool, ◌||◌, ◌==◌, nat_lt, nat_le, if◌then◌else◌}
use Rattle.std.specs.List.{before_first}

-- the byte of a line feed
abbrev pub is_break : ℕ → Bool
is_break byte = byte == 10

-- the line behind more bytes, where the one before them has this number
abbrev pub lines_from : ℕ → List ℕ → ℕ
lines_from line [] = line
lines_from line (b ∷ bytes) = lines_from (if is_break b then line + 1 else line) bytes

-- the line in which what follows these bytes stands
abbrev pub line_after : List ℕ → ℕ
line_after front = lines_from 1 front

-- what stands behind the last line feed of these bytes, and the line so far where they have none
abbrev pub last_from : List ℕ → List ℕ → List ℕ
last_from line [] = line
last_from line (b ∷ bytes) = last_from (if is_break b then bytes else line) bytes

-- what stands behind the last line feed
abbrev pub last_line : List ℕ → List ℕ
last_line front = last_from front front

-- what stands before the first line feed
abbrev pub rest_of_line : List ℕ → List ℕ
rest_of_line bytes = before_first is_break bytes

-- a character of UTF-8 begins with this byte (RFC 3629 section 3)
abbrev pub begins_character : ℕ → Bool
begins_character byte = nat_lt byte 128 || nat_le 192 byte

-- how many characters there are with those of more bytes
abbrev pub characters_from : ℕ → List ℕ → ℕ
characters_from count [] = count
characters_from count (b ∷ bytes) = characters_from (if begins_character b then count + 1 else count) bytes

-- how many characters a text has
abbrev pub characters : List ℕ → ℕ
characters text = characters_from 0 text

-- a tab for a tab, a space for each other byte that begins a character, and nothing for the others
abbrev pub blank_of : ℕ → List ℕ
blank_of byte = if byte == 9 then 9 ∷ [] else (if begins_character byte then 32 ∷ [] else [])

-- blanks as wide as a text, so that a mark below it stands in the right column
abbrev pub blanks : List ℕ → List ℕ
blanks [] = []
blanks (b ∷ bytes) = blank_of b ++ blanks bytes
