-- The statements of modules that count, as rows: each in its place in the order of the texts.
use Rattle.std.specs.Prelude.{◌≡◌, ℕ, suc, ◌+◌, ◌<◌, List, [], ◌∷◌, ◌++◌, length, Bool, true, false, ◌==◌, Option, Some, None, if◌then◌else◌, slice_get, get_or}
use Rattle.nm_yang.specs.Tree.{Tree, Trees, statement, none, more}
use Rattle.nm_yang.specs.Grammar.{keyword_of}
use Rattle.nm_schema_statements.specs.declared.word.Word.{Word}
use Rattle.nm_schema_statements.specs.declared.word.Word.TheVariants as word
use Rattle.nm_schema_statements.specs.declared.row.Row.{Row}
use Rattle.nm_schema_statements.specs.Word.{word_of, same_word}

-- ---- the rows of modules (this project's own)

-- a statement that is skipped has no row within another one
abbrev pub is_skipped : Word → Bool
is_skipped word.Skipped = true
is_skipped _ = false

-- nothing is looked at below statements that are skipped, left out or unknown
abbrev pub is_opened : Word → Bool
is_opened word.Skipped = false
is_opened word.Unsupported = false
is_opened word.Unknown = false
is_opened _ = true

-- the row of a statement
abbrev pub row_for : ℕ → Option ℕ → List ℕ → Option (List ℕ) → ℕ → Row
row_for owner parent keyword argument place =
    record { word = word_of keyword; keyword = keyword; argument = argument; place = place; parent = parent; «module» = owner }

-- the row of a statement that stands in `parent`, of the module `owner`
abbrev pub row_of : ℕ → Option ℕ → Tree → Row
row_of owner parent (statement keyword argument place below) = row_for owner parent keyword argument place

unfoldable mutual
  -- the rows of a statement, whatever it is: its own, which is row n, and those of what is looked at within it
  pub rows_from : ℕ → Option ℕ → ℕ → Tree → List Row
  rows_from owner parent n (statement keyword argument place below) =
      row_for owner parent keyword argument place ∷ (if is_opened (word_of keyword) then rows_within owner n (suc n) below else [])

  -- the rows of the statements within row `parent`, of which the first is row n
  pub rows_within : ℕ → ℕ → ℕ → Trees → List Row
  rows_within owner parent n none = []
  rows_within owner parent n (more t ts) =
      if is_skipped (word_of (keyword_of t)) then rows_within owner parent n ts else
      (rows_from owner (Some parent) n t ++ rows_within owner parent (n + length (rows_from owner (Some parent) n t)) ts)

-- the rows of a statement within row `parent`, of which the first is row n
abbrev pub rows_kept : ℕ → ℕ → ℕ → Tree → List Row
rows_kept owner parent n t = if is_skipped (word_of (keyword_of t)) then [] else rows_from owner (Some parent) n t

-- the rows of modules, of which the first is module k and begins with row n: each has a row, whatever its keyword is
unfoldable pub rows_after : ℕ → ℕ → List Tree → List Row
rows_after k n [] = []
rows_after k n (t ∷ ts) = rows_from k None n t ++ rows_after (suc k) (n + length (rows_from k None n t)) ts

-- the rows of modules, in the order of modules and places
abbrev pub rows_of : List Tree → List Row
rows_of modules = rows_after 0 0 modules

-- ---- what stands in what

-- two rows stand in the same row, or both in none
abbrev pub same_parent : Option ℕ → Option ℕ → Bool
same_parent None None = true
same_parent None (Some j) = false
same_parent (Some i) None = false
same_parent (Some i) (Some j) = i == j

-- the rows, of which the first is row n, that stand directly in `parent`
unfoldable pub those_in : ℕ → Option ℕ → List Row → List ℕ
those_in n parent [] = []
those_in n parent (r ∷ rows) = if same_parent r.parent parent then n ∷ those_in (suc n) parent rows else those_in (suc n) parent rows

-- the rows directly in row i, in order
abbrev pub children : List Row → ℕ → List ℕ
children rows i = those_in 0 (Some i) rows

-- the rows of the modules themselves, in order
abbrev pub roots : List Row → List ℕ
roots rows = those_in 0 None rows

-- there is a row, and it has this word
abbrev pub has_word : Word → Option Row → Bool
has_word wanted None = false
has_word wanted (Some r) = same_word r.word wanted

-- the first of these rows that has the word
abbrev pub first_with : List Row → Word → List ℕ → Option ℕ
first_with rows wanted [] = None
first_with rows wanted (i ∷ is) = if has_word wanted (slice_get rows i) then Some i else first_with rows wanted is

-- the first row directly in row i that has the word
abbrev pub first_below : List Row → ℕ → Word → Option ℕ
first_below rows i wanted = first_with rows wanted (children rows i)

-- ---- what holds of the rows of modules

-- row n stands in an earlier row, or in none
abbrev pub stands_before : ℕ → Option ℕ → Type 0
stands_before n None = Unit {0}
stands_before n (Some parent) = parent < n

-- each row, of which the first is row n, stands in an earlier one
abbrev pub ParentsBefore : ℕ → List Row → Type 0
ParentsBefore n [] = Unit {0}
ParentsBefore n (r ∷ rows) = stands_before n r.parent × ParentsBefore (suc n) rows

-- which rows stand in each, and which in none
pub record IsIndexed (rows : List Row) (below : List (List ℕ)) (top : List ℕ) : Type 0 where
  pub parents : ParentsBefore 0 rows
  pub count : length below ≡ length rows
  pub below_is : (i : ℕ) → i < length rows → get_or below i [] ≡ children rows i
  pub top_is : top ≡ roots rows

-- they are the rows of some modules
abbrev pub FromModules : List Row → Type 0
FromModules rows = (modules : List Tree) × (rows ≡ rows_of modules)

-- the number of the module that a row is of, where there is a row
abbrev pub module_in : Option Row → Option ℕ
module_in None = None
module_in (Some r) = Some r.module

-- the number of the module of row i
abbrev pub module_at : List Row → ℕ → Option ℕ
module_at rows i = module_in (slice_get rows i)

-- the rows of modules: each stands in an earlier one, and those in one are those that stand in it, in order
pub record AreRows (rows : List Row) : Type 0 where
  pub parents : (i p : ℕ) (r : Row) → slice_get rows i ≡ Some r → r.parent ≡ Some p → p < i
  pub within : (i k : ℕ) → k < length (children rows i) → (i < get_or (children rows i) k 0) × (get_or (children rows i) k 0 < length rows)
  pub stand : (i k : ℕ) (r : Row) → k < length (children rows i) → slice_get rows (get_or (children rows i) k 0) ≡ Some r → r.parent ≡ Some i
  pub listed : (i j : ℕ) (r : Row) → slice_get rows j ≡ Some r → r.parent ≡ Some i
      → (k : ℕ) × (k < length (children rows i)) × (get_or (children rows i) k 0 ≡ j)
  pub ascending : (i k l : ℕ) → k < l → l < length (children rows i) → get_or (children rows i) k 0 < get_or (children rows i) l 0
  pub tops : (k : ℕ) → k < length (roots rows) → get_or (roots rows) k 0 < length rows
  pub words : (i : ℕ) (r : Row) → slice_get rows i ≡ Some r → r.word ≡ word_of r.keyword
  pub modules : (i p : ℕ) (r : Row) → slice_get rows i ≡ Some r → r.parent ≡ Some p → module_at rows p ≡ Some r.module
  pub tops_are : (k : ℕ) → k < length (roots rows) → module_at rows (get_or (roots rows) k 0) ≡ Some k
