-- What stands where the first fault of a text is (RFC 7950 section 6).
use Rattle.std.specs.Prelude.{◌≡◌, ℕ, ◌≤◌, ◌<◌, ◌-◌, List, [], ◌∷◌, length, drop, codes, Bool, true, false, not, ◌==◌, ◌&&◌, ◌||◌, None}
use Rattle.std.specs.Str.Lossy.{utf8_valid_len}
use Rattle.nm_yang.specs.declared.fault.Fault.{Fault}
use Rattle.nm_yang.specs.declared.fault.YangKind.{YangKind}
use Rattle.nm_yang.specs.declared.fault.YangKind.TheVariants.{UnclosedQuote, UnclosedComment, UnclosedBrace, BadEscape, BadKeyword, BadToken, NotModule, Trailing, NotUtf8, TooLong, TooDeep}
use Rattle.nm_yang.specs.Tree.{Tree, Trees}
use Rattle.nm_yang.specs.Page.{Page, bad}
use Rattle.nm_yang.specs.Byte.{begins, begins_quote, is_start, is_white, opens_comment}
use Rattle.nm_yang.specs.Quote.{begins_other}
use Rattle.nm_yang.specs.Grammar.{Blanks, Each, Spells, keyword_of, IsKeywordAt, IsString, has_close}
use Rattle.nm_yang.specs.Module.{any_says_1_1, module_at, page_of, most_long, most_deep}

-- whether the statements that are read before the first fault say that the module is of version 1.1
abbrev pub is_1_1 : List ℕ → Bool
is_1_1 text = any_says_1_1 (module_at (page_of most_long false text)).0

-- what is read of a text
abbrev pub read_page : List ℕ → Page
read_page text = page_of most_long (is_1_1 text) text

-- whether `/*` stands first
abbrev pub begins_block : List ℕ → Bool
begins_block [] = false
begins_block (b ∷ rest) = b == 47 && begins rest 42

-- whether a backslash stands first, and behind it a byte that is no letter of an escape
abbrev pub begins_no_escape : List ℕ → Bool
begins_no_escape [] = false
begins_no_escape (b ∷ rest) = b == 92 && begins_other rest

-- whether a byte stands first that begins no identifier
abbrev pub begins_no_identifier : List ℕ → Bool
begins_no_identifier [] = false
begins_no_identifier (b ∷ rest) = not (is_start b)

-- whether a byte stands first that is no white space and opens no comment
abbrev pub begins_token : List ℕ → Bool
begins_token [] = false
begins_token (b ∷ rest) = not (is_white b || opens_comment b rest)

-- the rest begins with what makes a fault of this kind; a text in which something isn't closed is read to its end
abbrev pub Shows : Page → List ℕ → YangKind → Type 0
Shows page rest UnclosedQuote = (page.stop ≡ None) × (begins_quote rest ≡ true) × ((value after : List ℕ) → IsString page rest value after → ⊥)
Shows page rest UnclosedComment = (page.stop ≡ None) × (begins_block rest ≡ true) × (has_close (drop 2 rest) ≡ false)
Shows page rest UnclosedBrace = (page.stop ≡ None) × (begins rest 123 ≡ true)
    × ((depth : ℕ) (first after : List ℕ) (below : Trees) → Blanks first (drop 1 rest) → Each page depth first after below → ⊥)
Shows page rest BadEscape = (page.strict ≡ true) × (begins_no_escape rest ≡ true)
Shows page rest BadKeyword = (begins_no_identifier rest ≡ true) × (begins_token rest ≡ true)
Shows page rest BadToken = begins_token rest ≡ true
Shows page rest NotModule = ⊥
Shows page rest Trailing = ⊥
Shows page rest NotUtf8 = ⊥
Shows page rest TooLong = ⊥
Shows page rest TooDeep = begins rest 123 ≡ true

-- what is read of a text from a place on
abbrev pub read_from : List ℕ → ℕ → List ℕ
read_from text place = drop place (read_page text).text

-- the text has a cause of the fault
pub data IsCause (text : List ℕ) (fault : Fault) : Type 0 where
  -- it stands at the place
  shown : Shows (read_page text) (read_from text fault.place) fault.kind → IsCause text fault
  -- no identifier stands behind a colon
  behind_colon : fault.kind ≡ BadKeyword → 0 < fault.place → read_from text (fault.place - 1) ≡ 58 ∷ read_from text fault.place
      → begins_no_identifier (read_from text fault.place) ≡ true → IsCause text fault
  -- the text is read to its end
  no_module : fault ≡ bad 0 NotModule → (read_page text).stop ≡ None → IsCause text fault
  -- another statement stands first
  other_keyword : fault ≡ bad 0 NotModule → (start keyword after : List ℕ) → Blanks start (read_page text).text
      → IsKeywordAt start keyword after → (keyword ≡ codes "module" → ⊥) → IsCause text fault
  -- a module stands before, and blanks
  trailing : fault.kind ≡ Trailing → (start after : List ℕ) (t : Tree) → Blanks start (read_page text).text
      → Spells (read_page text) most_deep start after t → keyword_of t ≡ codes "module"
      → Blanks (read_from text fault.place) after → begins_token (read_from text fault.place) ≡ true → IsCause text fault
  -- the bytes are UTF-8 up to there
  not_utf8 : fault ≡ bad (utf8_valid_len text) NotUtf8 → utf8_valid_len text < length text → utf8_valid_len text < most_long → IsCause text fault
  -- the text goes on behind the limit
  too_long : fault ≡ bad most_long TooLong → most_long ≤ utf8_valid_len text → most_long < length text → IsCause text fault

-- whether reading stops at a fault of this kind, whatever stands behind it: at a backslash that begins no escape it does where
-- each must
abbrev pub halts : Bool → YangKind → Bool
halts strict BadEscape = strict
halts strict BadKeyword = true
halts strict BadToken = true
halts strict Trailing = true
halts strict TooDeep = true
halts strict _ = false
