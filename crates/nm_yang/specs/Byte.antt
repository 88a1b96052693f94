-- The bytes that part a text (RFC 7950 sections 6.1 and 6.2).
use Rattle.std.specs.Prelude.{ℕ, List, [], ◌∷◌, Bool, false, ◌==◌, ◌&&◌, ◌||◌, nat_le}

-- space, tab, carriage return and line feed
abbrev pub is_white : ℕ → Bool
is_white b = b == 32 || b == 9 || b == 13 || b == 10

-- `"` and `'`
abbrev pub is_quote : ℕ → Bool
is_quote b = b == 34 || b == 39

-- `;`, `{` and `}`
abbrev pub is_mark : ℕ → Bool
is_mark b = b == 59 || b == 123 || b == 125

-- what ends a word
abbrev pub is_ending : ℕ → Bool
is_ending b = is_white b || is_quote b || is_mark b

-- an ASCII letter or `_`
abbrev pub is_start : ℕ → Bool
is_start b = (nat_le 97 b && nat_le b 122) || (nat_le 65 b && nat_le b 90) || b == 95

-- what an identifier goes on with: also digits, `-` and `.`
abbrev pub is_name : ℕ → Bool
is_name b = is_start b || (nat_le 48 b && nat_le b 57) || b == 45 || b == 46

-- whether a byte stands first
abbrev pub begins : List ℕ → ℕ → Bool
begins [] k = false
begins (b ∷ bytes) k = b == k

-- a quote stands first
abbrev pub begins_quote : List ℕ → Bool
begins_quote [] = false
begins_quote (b ∷ bytes) = is_quote b

-- `;`, `{` or `}` stands first
abbrev pub begins_mark : List ℕ → Bool
begins_mark [] = false
begins_mark (b ∷ bytes) = is_mark b

-- whether b, before these bytes, opens a comment
abbrev pub opens_comment : ℕ → List ℕ → Bool
opens_comment b bytes = b == 47 && (begins bytes 47 || begins bytes 42)

-- whether b, before these bytes, is the `*` of a `*/`
abbrev pub closes_comment : ℕ → List ℕ → Bool
closes_comment b bytes = b == 42 && begins bytes 47
