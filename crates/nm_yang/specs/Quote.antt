-- Arguments in quotes (RFC 7950 section 6.1.3).
use Rattle.std.specs.Prelude.{ℕ, ◌+◌, ◌-◌, List, [], ◌∷◌, ◌++◌, drop, Bool, not, true, false, ◌==◌, ◌&&◌, ◌||◌, nat_lt, Result, Ok, Err, if◌then◌else◌}
use Rattle.nm_yang.specs.declared.fault.Fault.{Fault}
use Rattle.nm_yang.specs.declared.fault.YangKind.TheVariants.{UnclosedQuote, BadEscape}
use Rattle.nm_yang.specs.Page.{Page, bad, place_of, at_end, front, column_of, ◌>>=◌}

-- the letters after a backslash: `n`, `t`, `"` and `\`
abbrev pub is_escape : ℕ → Bool
is_escape c = c == 110 || c == 116 || c == 34 || c == 92

-- what such a letter stands for
abbrev pub escaped : ℕ → ℕ
escaped c = if c == 110 then 10 else (if c == 116 then 9 else c)

-- whether such a letter stands first
abbrev pub begins_escape : List ℕ → Bool
begins_escape [] = false
begins_escape (c ∷ rest) = is_escape c

-- whether a byte stands first that is no such letter
abbrev pub begins_other : List ℕ → Bool
begins_other [] = false
begins_other (c ∷ rest) = not (is_escape c)

-- the rest from the single quote that closes, where one opened at a place
unfoldable pub single_end : Page → ℕ → List ℕ → Result (List ℕ) Fault
single_end page opener [] = Err (at_end page (bad opener UnclosedQuote))
single_end page opener (b ∷ rest) = if b == 39 then Ok (b ∷ rest) else single_end page opener rest

-- the rest from the double quote that closes, where the byte before may be a backslash that takes the next with it
unfoldable pub double_end : Page → ℕ → Bool → List ℕ → Result (List ℕ) Fault
double_end page opener after_backslash [] = Err (at_end page (bad opener UnclosedQuote))
double_end page opener true (b ∷ rest) = double_end page opener false rest
double_end page opener false (b ∷ rest) = if b == 34 then Ok (b ∷ rest) else (
    if b == 92 && page.strict && begins_other rest then Err (bad (place_of page (b ∷ rest)) BadEscape) else double_end page opener (b == 92) rest)

-- blanks that go before a line break
abbrev pub is_loose : ℕ → Bool
is_loose b = b == 32 || b == 9 || b == 13

-- What stands between double quotes means. After a line break up to `room` columns of blanks go, of which `left`
-- are still to go here; `loose` are the blanks before, which go if a line break comes next.
unfoldable pub meaning : ℕ → ℕ → Bool → List ℕ → List ℕ → List ℕ
meaning room left true loose [] = loose
meaning room left true loose (b ∷ rest) = escaped b ∷ meaning room 0 false [] rest
meaning room left false loose [] = loose
meaning room left false loose (b ∷ rest) = if b == 10 then b ∷ meaning room room false [] rest else (
    if nat_lt 0 left && b == 32 then meaning room (left - 1) false loose rest else (
    if nat_lt 0 left && b == 9 then meaning room (left - 8) false loose rest else (
    if is_loose b then meaning room 0 false (loose ++ b ∷ []) rest else (
    if b == 92 && begins_escape rest then loose ++ meaning room 0 true [] rest else
    loose ++ b ∷ meaning room 0 false [] rest))))

-- the bytes of one quoted string, and the rest after it
unfoldable pub string_at : Page → List ℕ → Result (List ℕ × List ℕ) Fault
string_at page [] = Ok ([], [])
string_at page (quote ∷ bytes) = if quote == 39 then (do
  rest ← single_end page (place_of page (quote ∷ bytes)) bytes
  Ok (front bytes rest, drop 1 rest)) else (do
    rest ← double_end page (place_of page (quote ∷ bytes)) false bytes
    Ok (meaning (column_of page (quote ∷ bytes) + 1) 0 false [] (front bytes rest), drop 1 rest))
