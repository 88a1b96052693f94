-- Keywords, and arguments without quotes (RFC 7950 sections 6.1.2, 6.1.3 and 6.2).
use Rattle.std.specs.Prelude.{ℕ, List, [], ◌∷◌, Bool, false, ◌==◌, ◌||◌, Result, Ok, Err, if◌then◌else◌}
use Rattle.std.specs.Str.{is_utf8}
use Rattle.nm_yang.specs.declared.fault.Fault.{Fault}
use Rattle.nm_yang.specs.declared.fault.YangKind.TheVariants.{BadKeyword, BadToken}
use Rattle.nm_yang.specs.Page.{Page, bad, place_of, front, ◌>>=◌}
use Rattle.nm_yang.specs.Byte.{is_start, is_name, is_ending, begins_mark, opens_comment, closes_comment}

-- the rest after what an identifier goes on with
abbrev pub name_end : List ℕ → List ℕ
name_end [] = []
name_end (b ∷ rest) = if is_name b then name_end rest else b ∷ rest

-- the rest after an identifier; ending is the fault where the text ends here
unfoldable pub name_at : Page → Fault → List ℕ → Result (List ℕ) Fault
name_at page ending [] = Err ending
name_at page ending (b ∷ rest) = if is_start b then Ok (name_end rest) else Err (bad (place_of page (b ∷ rest)) BadKeyword)

-- the rest after a colon and an identifier, where a colon stands
unfoldable pub colon_at : Page → Fault → List ℕ → Result (List ℕ) Fault
colon_at page ending [] = Ok []
colon_at page ending (b ∷ rest) = if b == 58 then name_at page ending rest else Ok (b ∷ rest)

-- the same bytes, where a keyword may end before them
unfoldable pub parted : Page → Fault → List ℕ → Result (List ℕ) Fault
parted page ending [] = Err ending
parted page ending (b ∷ rest) = if is_ending b || opens_comment b rest then Ok (b ∷ rest) else Err (bad (place_of page (b ∷ rest)) BadKeyword)

-- a keyword, and the rest after it
unfoldable pub keyword_at : Page → Fault → List ℕ → Result (List ℕ × List ℕ) Fault
keyword_at page ending bytes = if begins_mark bytes then Err (bad (place_of page bytes) BadToken) else (do
  name ← name_at page ending bytes
  whole ← colon_at page ending name
  rest ← parted page ending whole
  Ok (front bytes rest, rest))

-- the rest after a word without quotes: it ends before white space, quotes, marks, `//`, `/*` and `*/`
abbrev pub bare_end : List ℕ → List ℕ
bare_end [] = []
bare_end (b ∷ rest) = if is_ending b || opens_comment b rest || closes_comment b rest then b ∷ rest else bare_end rest

-- a `*/` stands first
abbrev pub begins_close : List ℕ → Bool
begins_close [] = false
begins_close (b ∷ rest) = closes_comment b rest

-- an argument without quotes, and the rest after it
unfoldable pub bare_at : Page → List ℕ → Result (List ℕ × List ℕ) Fault
bare_at page bytes =
    if begins_close (bare_end bytes)
    then Err (bad (place_of page (bare_end bytes)) BadToken)
    else Ok (front bytes (bare_end bytes), bare_end bytes)

-- the bytes where they are UTF-8, and else the fault
abbrev pub text_at : Fault → List ℕ → Result (List ℕ) Fault
text_at fault bytes = if is_utf8 bytes then Ok bytes else Err fault
