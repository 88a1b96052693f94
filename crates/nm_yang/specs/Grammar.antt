-- What the text of a module is, by cases on the text, apart from how it is read (RFC 7950 section 6).
use Rattle.std.specs.Prelude.{◌≡◌, ℕ, suc, ◌+◌, ◌-◌, ◌≤◌, List, [], ◌∷◌, ◌++◌, length, codes, Bool, true, false, not, ◌==◌, ◌&&◌, ◌||◌, ◌⊎◌, nat_lt, Option, Some, None, IsUtf8, if◌then◌else◌}
use Rattle.nm_yang.specs.Tree.{Tree, Trees, statement, none, more}
use Rattle.nm_yang.specs.Page.{Page, column_of, place_of}
use Rattle.nm_yang.specs.Byte.{is_start, is_name, is_white, is_ending, opens_comment, closes_comment}
use Rattle.nm_yang.specs.Word.{begins_close}
use Rattle.nm_yang.specs.Quote.{is_escape, escaped, is_loose, begins_escape}
use Rattle.nm_yang.specs.Module.{says_1_1, most_deep, most_long}

-- whether a byte is among these
abbrev pub has : ℕ → List ℕ → Bool
has k [] = false
has k (b ∷ bytes) = b == k || has k bytes

-- whether `*/` is among these
abbrev pub has_close : List ℕ → Bool
has_close [] = false
has_close (b ∷ bytes) = closes_comment b bytes || has_close bytes

-- the text is white space and comments, and then the rest (RFC 7950 section 6.1.1)
pub data Blanks (rest : List ℕ) : List ℕ → Type 0 where
  ended : Blanks rest rest
  white : (b : ℕ) (text : List ℕ) → is_white b ≡ true → Blanks rest text → Blanks rest (b ∷ text)
  line : (comment text : List ℕ) → has 10 comment ≡ false → Blanks rest text → Blanks rest (47 ∷ 47 ∷ (comment ++ 10 ∷ text))
  last_line : (comment : List ℕ) → has 10 comment ≡ false → rest ≡ [] → Blanks rest (47 ∷ 47 ∷ comment)
  block : (comment text : List ℕ) → has_close comment ≡ false → Blanks rest text → Blanks rest (47 ∷ 42 ∷ (comment ++ 42 ∷ 47 ∷ text))

-- bytes that an identifier goes on with
abbrev pub names : List ℕ → Bool
names [] = true
names (b ∷ bytes) = is_name b && names bytes

-- an identifier (RFC 7950 section 6.2)
abbrev pub IsIdentifier : List ℕ → Type 0
IsIdentifier [] = ⊥
IsIdentifier (b ∷ bytes) = (is_start b ≡ true) × (names bytes ≡ true)

-- an identifier, or a prefix, a colon and an identifier (RFC 7950 section 6.3)
abbrev pub IsKeyword : List ℕ → Type 0
IsKeyword keyword = IsIdentifier keyword ⊎ ((prefix : List ℕ) × (name : List ℕ) × (keyword ≡ prefix ++ 58 ∷ name) × IsIdentifier prefix × IsIdentifier name)

-- what may stand right after a keyword: white space, a quote, a mark or a comment
abbrev pub can_follow : List ℕ → Bool
can_follow [] = false
can_follow (b ∷ rest) = is_ending b || opens_comment b rest

-- the text is a keyword, and then the rest (RFC 7950 section 6.1.2)
pub record IsKeywordAt (text keyword rest : List ℕ) : Type 0 where
  pub parts : text ≡ keyword ++ rest
  pub keyword_is : IsKeyword keyword
  pub follows : can_follow rest ≡ true

-- whether a word ends before these bytes: white space, quotes, marks, `//`, `/*` and `*/`
abbrev pub ends_word : List ℕ → Bool
ends_word [] = true
ends_word (b ∷ rest) = is_ending b || opens_comment b rest || closes_comment b rest

-- before the rest a word ends, and not sooner (RFC 7950 section 6.1.3)
abbrev pub IsWord : List ℕ → List ℕ → Type 0
IsWord [] rest = (ends_word rest ≡ true) × (begins_close rest ≡ false)
IsWord (b ∷ word) rest = (ends_word (b ∷ (word ++ rest)) ≡ false) × IsWord word rest

-- Whether no quote stands among these bytes but behind a backslash, which takes the next byte with it, and whether
-- each backslash begins an escape where it must. A backslash may stand before the first byte.
abbrev pub is_raw : Bool → Bool → List ℕ → Bool
is_raw strict true [] = false
is_raw strict true (b ∷ raw) = (not strict || is_escape b) && is_raw strict false raw
is_raw strict false [] = true
is_raw strict false (b ∷ raw) = not (b == 34) && is_raw strict (b == 92) raw

-- whether only blanks stand before the next line break
abbrev pub breaks : List ℕ → Bool
breaks [] = false
breaks (b ∷ raw) = b == 10 || (is_loose b && breaks raw)

-- What stands between double quotes means: a blank goes where only blanks stand between it and a line break, and
-- after a line break within the first `room` columns, of which `left` are still to come. An escape stands for its
-- byte, and what is behind a backslash is no blank (RFC 7950 section 6.1.3).
unfoldable pub spoken : ℕ → ℕ → Bool → List ℕ → List ℕ
spoken room left true [] = []
spoken room left true (b ∷ raw) = escaped b ∷ spoken room 0 false raw
spoken room left false [] = []
spoken room left false (b ∷ raw) =
    if b == 10 then b ∷ spoken room room false raw else (
    if is_loose b && breaks raw then spoken room 0 false raw else (
    if nat_lt 0 left && b == 32 then spoken room (left - 1) false raw else (
    if nat_lt 0 left && b == 9 then spoken room (left - 8) false raw else (
    if b == 92 && begins_escape raw then spoken room 0 true raw else b ∷ spoken room 0 false raw))))

-- the text is a string in quotes that means a value, and then the rest; single quotes hold all bytes as they stand
pub data IsString (page : Page) (text value rest : List ℕ) : Type 0 where
  single : text ≡ 39 ∷ (value ++ 39 ∷ rest) → has 39 value ≡ false → IsString page text value rest
  double : (raw : List ℕ) → text ≡ 34 ∷ (raw ++ 34 ∷ rest) → is_raw page.strict false raw ≡ true
      → value ≡ spoken (column_of page text + 1) 0 false raw → IsString page text value rest

-- the text is strings that `+` joins to a value, blanks, and then the rest
pub data Joined (page : Page) (rest : List ℕ) : List ℕ → List ℕ → Type 0 where
  one : (text value after : List ℕ) → IsString page text value after → Blanks rest after → Joined page rest text value
  plus : (text value after more_text next others : List ℕ) → IsString page text value after → Blanks (43 ∷ more_text) after
      → Blanks next more_text → Joined page rest next others → Joined page rest text (value ++ others)

-- the text is an argument or none, blanks, and then the rest
pub data IsArgument (page : Page) (text : List ℕ) (argument : Option (List ℕ)) (rest : List ℕ) : Type 0 where
  absent : argument ≡ None → text ≡ rest → IsArgument page text argument rest
  word : (b : ℕ) (w after : List ℕ) → argument ≡ Some (b ∷ w) → IsUtf8 (b ∷ w) → text ≡ (b ∷ w) ++ after → IsWord (b ∷ w) after
      → Blanks rest after → IsArgument page text argument rest
  quoted : (value : List ℕ) → argument ≡ Some value → IsUtf8 value → Joined page rest text value → IsArgument page text argument rest

-- The text is a statement, which may open so many braces more, and then the rest (RFC 7950 section 6.3).
mutual
  pub data Spells (page : Page) : ℕ → List ℕ → List ℕ → Tree → Type 0 where
    alone : (depth : ℕ) (text keyword after start rest : List ℕ) (argument : Option (List ℕ))
        → IsKeywordAt text keyword after → Blanks start after → IsArgument page start argument (59 ∷ rest)
        → Spells page depth text rest (statement keyword argument (place_of page text) none)
    holding : (depth : ℕ) (text keyword after start within first rest : List ℕ) (argument : Option (List ℕ)) (below : Trees)
        → IsKeywordAt text keyword after → Blanks start after → IsArgument page start argument (123 ∷ within)
        → Blanks first within → Each page depth first rest below
        → Spells page (suc depth) text rest (statement keyword argument (place_of page text) below)

  -- the text is statements, a `}`, and then the rest
  pub data Each (page : Page) : ℕ → List ℕ → List ℕ → Trees → Type 0 where
    closed : (depth : ℕ) (rest : List ℕ) → Each page depth (125 ∷ rest) rest none
    another : (depth : ℕ) (text after next rest : List ℕ) (t : Tree) (ts : Trees) → Spells page depth text after t
        → Blanks next after → Each page depth next rest ts → Each page depth text rest (more t ts)

-- the keyword of a statement
abbrev pub keyword_of : Tree → List ℕ
keyword_of (statement keyword argument place below) = keyword

-- the statements within a statement
abbrev pub below_of : Tree → Trees
below_of (statement keyword argument place below) = below

-- whether one of the statements says that the module is of version 1.1
abbrev pub any_of_says_1_1 : Trees → Bool
any_of_says_1_1 none = false
any_of_says_1_1 (more t ts) = says_1_1 t || any_of_says_1_1 ts

-- the text, whose backslashes must begin escapes or not, is blanks, one `module`, and blanks (RFC 7950 section 7.1)
pub record SpellsWith (strict : Bool) (text : List ℕ) (t : Tree) : Type 0 where
  pub start : List ℕ
  pub after : List ℕ
  pub before : Blanks start text
  pub spells : Spells (record { text = text; stop = None; strict = strict }) most_deep start after t
  pub behind : Blanks [] after
  pub keyword : keyword_of t ≡ codes "module"

-- A text of at most 262,144 bytes of UTF-8 is a module. Each backslash between double quotes must begin an escape where
-- the module's yang-version statement says 1.1 (RFC 7950 sections 6.1.3 and 7.1.2).
pub record SpellsModule (text : List ℕ) (t : Tree) : Type 0 where
  pub utf8 : IsUtf8 text
  pub short : length text ≤ most_long
  pub spelt : SpellsWith (any_of_says_1_1 (below_of t)) text t
