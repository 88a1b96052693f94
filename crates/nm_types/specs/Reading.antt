-- What reading a value gives: a function of the text.
use Rattle.std.specs.Prelude.{◌≡◌, ℕ, ◌-◌, ◌*◌, ◌^◌, ◌%◌, ℤ, pos, neg_ℤ, Bool, true, false, not, ◌&&◌, ◌||◌, List, [], ◌∷◌, ◌++◌, filter, fold, take, drop, length, codes, nat_lt, nat_le, ◌==◌, if◌then◌else◌, Option, Some, None, option_map, Result, Ok, Err, ⊤}
use Rattle.std.specs.List.{list_all, slice_split, position_or_len, before_first, after_first}
use Rattle.std.specs.Str.{bytes_eq, all_ascii_digits, chars}
use Rattle.std.specs.Str.Parse.{digits_value, without_leading_sign, starts_with_minus}
use Rattle.nm_types.specs.declared.value.Value.{Value}
use Rattle.nm_types.specs.declared.value.Value.TheVariants.{Int, Decimal, Text, Name, Bits, Empty, Bool as Flag}
use Rattle.nm_types.specs.declared.fault.ValueFault.{ValueFault}
use Rattle.nm_types.specs.declared.fault.ValueFault.TheVariants.{BadText, OutOfRange, NoMemory}
use Rattle.nm_types.specs.LeafType.{Kind, integer, decimal, boolean, string, enumeration, bits, empty, TypeOfLeaf}
use Rattle.nm_types.specs.Limits.{meets_limits}
use Rattle.nm_types.specs.Names.{has_text}

-- one decimal digit or more
abbrev pub is_numeral : List ℕ → Bool
is_numeral [] = false
is_numeral (d ∷ ds) = all_ascii_digits (d ∷ ds)

-- a magnitude with the sign that the text begins with
abbrev pub with_sign : List ℕ → ℕ → ℤ
with_sign text m = if starts_with_minus text then neg_ℤ (pos m) else pos m

-- the integer that a text spells
unfoldable pub integer_of : List ℕ → Option ℤ
integer_of text = if is_numeral (without_leading_sign text) then Some (with_sign text (digits_value 10 (without_leading_sign text))) else None

-- the scaled value of whole digits and those after the point, if those past the fraction digits are zeros
abbrev pub scaled_of : ℕ → List ℕ → List ℕ → Option ℕ
scaled_of digits whole part =
    if list_all (λ b. b == 48) (drop digits part)
    then Some (digits_value 10 (whole ++ take digits part) * 10 ^ (digits - length part))
    else None

-- whole digits alone
unfoldable pub whole_of : ℕ → List ℕ → Option ℕ
whole_of digits whole = if is_numeral whole then scaled_of digits whole [] else None

-- whole digits, and those behind a point
unfoldable pub pointed_of : ℕ → List ℕ → List ℕ → Option ℕ
pointed_of digits whole part = if is_numeral whole && is_numeral part then scaled_of digits whole part else None

-- the byte `.`
abbrev pub is_point : ℕ → Bool
is_point b = b == 46

-- the scaled value that a text without its sign spells
unfoldable pub magnitude_of : ℕ → List ℕ → Option ℕ
magnitude_of digits rest =
    if nat_lt (position_or_len is_point rest) (length rest)
    then pointed_of digits (before_first is_point rest) (after_first is_point rest)
    else whole_of digits rest

-- the scaled value that a text spells
abbrev pub decimal_of : ℕ → List ℕ → Option ℤ
decimal_of digits text = option_map (with_sign text) (magnitude_of digits (without_leading_sign text))

-- the words of a text, which spaces part
unfoldable pub words : List ℕ → List (List ℕ)
words text = filter (λ w. not (length w == 0)) (slice_split (λ b. b == 32) text)

-- whether the words are names, each once
unfoldable pub are_bits : List (List ℕ) → List (List ℕ) → Bool
are_bits names [] = true
are_bits names (w ∷ ws) = has_text names w && not (has_text ws w) && are_bits names ws

-- a name behind those before it, parted by one space
abbrev pub spaced : List ℕ → List ℕ → List ℕ
spaced [] name = name
spaced (b ∷ bs) name = (b ∷ bs) ++ 32 ∷ name

-- the names of the bits that are set, in order of position and parted by one space (RFC 7950 section 9.7.3)
unfoldable pub bits_text : List (List ℕ) → List (List ℕ) → List ℕ
bits_text names ws = fold spaced [] (filter (has_text ws) names)

-- the canonical text of the bits that a text names
unfoldable pub bits_of : List (List ℕ) → List ℕ → Option (List ℕ)
bits_of names text = if are_bits names (words text) then Some (bits_text names (words text)) else None

-- a control character below U+0020, but for tab, line feed and carriage return
abbrev pub is_barred : ℕ → Bool
is_barred c = nat_lt c 32 && not (c == 9 || c == 10 || c == 13)

-- a noncharacter of Unicode: U+FDD0 to U+FDEF, and the last two code points of each plane
abbrev pub is_noncharacter : ℕ → Bool
is_noncharacter c = (nat_le 64976 c && nat_le c 65007) || nat_le 65534 (c % 65536)

-- the characters that YANG's text may have (RFC 7950 section 14, yang-char)
abbrev pub is_character : ℕ → Bool
is_character c = not (is_barred c) && not (is_noncharacter c)

-- each character of a text is one that a string may have (RFC 7950 section 9.4)
unfoldable pub are_characters : List ℕ → Bool
are_characters text = list_all is_character (chars text)

-- the value that a text spells
unfoldable pub spelled : Kind → List ℕ → Option Value
spelled (integer low high) text = option_map Int (integer_of text)
spelled (decimal digits) text = option_map (λ z. Decimal z digits) (decimal_of digits text)
spelled boolean text = if bytes_eq text (codes "true") then Some (Flag true) else (if bytes_eq text (codes "false") then Some (Flag false) else None)
spelled string text = if are_characters text then Some (Text text) else None
spelled (enumeration names) text = if has_text names text then Some (Name text) else None
spelled (bits names) text = option_map Bits (bits_of names text)
spelled empty text = if length text == 0 then Some Empty else None

-- the answer to a value that is spelled, and to none
abbrev pub judged : TypeOfLeaf → Option Value → Result Value ValueFault
judged t None = Err BadText
judged t (Some v) = if meets_limits t v then Ok v else Err OutOfRange

-- what reading a text gives
abbrev pub reading : TypeOfLeaf → List ℕ → Result Value ValueFault
reading t text = judged t (spelled t.kind text)

-- an answer is what reading gives, unless memory ran out
abbrev pub Gives : Result Value ValueFault → Result Value ValueFault → Type 0
Gives (Ok v) read = read ≡ Ok v
Gives (Err BadText) read = read ≡ Err BadText
Gives (Err OutOfRange) read = read ≡ Err OutOfRange
Gives (Err NoMemory) read = ⊤
