-- Blanks around the bounds of a range or a length (RFC 7950 section 14, optsep).
use Rattle.std.specs.Prelude.{ℕ, ◌-◌, Bool, not, ◌||◌, List, take, drop, length, reverse, ◌==◌}
use Rattle.std.specs.List.{position_or_len}

-- a byte that is none of space, tab, CR and LF
abbrev pub is_solid : ℕ → Bool
is_solid b = not (b == 32 || b == 9 || b == 13 || b == 10)

-- a text without the blanks that it ends with
abbrev pub without_trailing : List ℕ → List ℕ
without_trailing text = take (length text - position_or_len is_solid (reverse text)) text

-- a text without the blanks around it
abbrev pub trimmed : List ℕ → List ℕ
trimmed text = without_trailing (drop (position_or_len is_solid text) text)
