-- How a text is printed within a line: a control character as JSON writes it (RFC 8259 section 7), all else as itself (this project's own).
use Rattle.std.specs.Prelude.{ℕ, zero, suc, ◌+◌, ◌/◌, ◌%◌, List, [], ◌∷◌, ◌++◌, codes, Bool, ◌==◌, ◌&&◌, ◌||◌, nat_lt, nat_le, Option, Some, None, if◌then◌else◌}

-- the byte that ends a line
abbrev pub is_break : ℕ → Bool
is_break byte = byte == 10

-- the digit of a number below 16
abbrev pub hex_digit : ℕ → ℕ
hex_digit number = if nat_lt number 10 then 48 + number else 87 + number

-- a backslash, a `u` and the four digits of a number
abbrev pub digits_of : ℕ → List ℕ
digits_of code = 92 ∷ 117 ∷ hex_digit (code / 4096 % 16) ∷ hex_digit (code / 256 % 16) ∷ hex_digit (code / 16 % 16) ∷ hex_digit (code % 16) ∷ []

-- a control character by its number: a line feed, a carriage return and a tab have a letter (RFC 8259 section 7)
abbrev pub escape_of : ℕ → List ℕ
escape_of code = if code == 10 then codes "\\n" else (if code == 13 then codes "\\r" else (if code == 9 then codes "\\t" else digits_of code))

-- U+0080 to U+009F by their second byte, which is their number
abbrev pub second_of_two : List ℕ → Option ℕ
second_of_two [] = None
second_of_two (second ∷ bytes) = if nat_le 128 second && nat_lt second 160 then Some second else None

-- U+2028 and U+2029 by their second and third bytes
abbrev pub rest_of_three : List ℕ → Option ℕ
rest_of_three [] = None
rest_of_three (second ∷ []) = None
rest_of_three (second ∷ third ∷ bytes) = if second == 128 && (third == 168 || third == 169) then Some (8064 + third) else None

-- the control character that begins with a byte before others: one below U+0020 or from U+007F to U+009F, or one that parts lines or paragraphs
abbrev pub control_at : ℕ → List ℕ → Option ℕ
control_at byte behind =
    if nat_lt byte 32 || byte == 127 then Some byte else (
    if byte == 194 then second_of_two behind else (
    if byte == 226 then rest_of_three behind else None))

-- how many bytes of a control character stand behind its first
abbrev pub bytes_behind : ℕ → ℕ
bytes_behind byte = if byte == 194 then 1 else (if byte == 226 then 2 else 0)

-- a control character as JSON writes it, and a byte alone where none begins with it
abbrev pub piece_of : ℕ → Option ℕ → List ℕ
piece_of byte None = byte ∷ []
piece_of byte (Some code) = escape_of code

-- how many bytes behind a byte are printed with it
abbrev pub done_with : ℕ → Option ℕ → ℕ
done_with byte None = 0
done_with byte (Some code) = bytes_behind byte

-- what is printed of bytes, the first so many of which are printed already
unfoldable pub printed_behind : ℕ → List ℕ → List ℕ
printed_behind done [] = []
printed_behind zero (byte ∷ bytes) = piece_of byte (control_at byte bytes) ++ printed_behind (done_with byte (control_at byte bytes)) bytes
printed_behind (suc done) (byte ∷ bytes) = printed_behind done bytes

-- a text as it is printed within a line
abbrev pub printed : List ℕ → List ℕ
printed text = printed_behind 0 text
