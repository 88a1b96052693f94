-- The argument of a statement (RFC 7950 sections 6.1.3 and 6.3).
use Rattle.std.specs.Prelude.{ℕ, zero, suc, List, [], ◌∷◌, length, drop, ◌==◌, ◌||◌, Option, Some, None, Result, Ok, Err, if◌then◌else◌}
use Rattle.nm_yang.specs.declared.fault.Fault.{Fault}
use Rattle.nm_yang.specs.declared.fault.YangKind.TheVariants.{BadToken, NotUtf8}
use Rattle.nm_yang.specs.Page.{Page, bad, place_of, with_front, ◌>>=◌}
use Rattle.nm_yang.specs.Byte.{begins, is_quote}
use Rattle.nm_yang.specs.Blank.{skip, plain}
use Rattle.nm_yang.specs.Word.{bare_at, text_at}
use Rattle.nm_yang.specs.Quote.{string_at}

-- the same bytes, where a quote stands first; ending is the fault where the text ends here
unfoldable pub quote_at : Page → Fault → List ℕ → Result (List ℕ) Fault
quote_at page ending [] = Err ending
quote_at page ending (b ∷ rest) = if is_quote b then Ok (b ∷ rest) else Err (bad (place_of page (b ∷ rest)) BadToken)

-- one quoted string, and the rest after it and the blanks that follow
unfoldable pub piece_at : Page → List ℕ → Result (List ℕ × List ℕ) Fault
piece_at page bytes = do
  s ← string_at page bytes
  rest ← skip page plain s.1
  Ok (s.0, rest)

-- the string after a `+`
unfoldable pub added_at : Page → Fault → List ℕ → Result (List ℕ × List ℕ) Fault
added_at page ending bytes = do
  next ← skip page plain (drop 1 bytes)
  quote ← quote_at page ending next
  piece_at page quote

-- the strings that `+` joins, at most so many
unfoldable pub more_at : Page → Fault → ℕ → List ℕ → Result (List ℕ × List ℕ) Fault
more_at page ending zero bytes = Ok ([], bytes)
more_at page ending (suc n) bytes = if begins bytes 43 then (added_at page ending bytes >>= λ s. with_front s.0 (more_at page ending n s.1)) else Ok ([], bytes)

-- all that is joined
unfoldable pub quoted_at : Page → Fault → List ℕ → Result (List ℕ × List ℕ) Fault
quoted_at page ending bytes = piece_at page bytes >>= λ s. with_front s.0 (more_at page ending (length s.1) s.1)

-- the text of quoted strings, and the rest after them
unfoldable pub quoted_label : Page → Fault → List ℕ → Result (List ℕ × List ℕ) Fault
quoted_label page ending bytes = do
  s ← quoted_at page ending bytes
  text ← text_at (bad (place_of page bytes) NotUtf8) s.0
  Ok (text, s.1)

-- the text of an argument without quotes, and the rest after it
unfoldable pub bare_label : Page → List ℕ → Result (List ℕ × List ℕ) Fault
bare_label page bytes = do
  s ← bare_at page bytes
  text ← text_at (bad (place_of page bytes) NotUtf8) s.0
  rest ← skip page plain s.1
  Ok (text, rest)

-- an argument or none, and the rest after it and the blanks that follow
unfoldable pub argument_at : Page → Fault → List ℕ → Result (Option (List ℕ) × List ℕ) Fault
argument_at page ending [] = Err ending
argument_at page ending (b ∷ bytes) = if b == 59 || b == 123 then Ok (None, b ∷ bytes) else (
    if b == 125 then Err (bad (place_of page (b ∷ bytes)) BadToken) else (
    (if is_quote b then quoted_label page ending (b ∷ bytes) else bare_label page (b ∷ bytes)) >>= λ s. Ok (Some s.0, s.1)))
