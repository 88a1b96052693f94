-- The one text that is written of a statement: each argument in double quotes on one line.
use Rattle.std.specs.Prelude.{◌≡◌, zero, suc, IfSome, IsUtf8, codes, Ok, ℕ, List, [], ◌∷◌, ◌++◌, ◌==◌, ◌||◌, Option, Some, None, if◌then◌else◌}
use Rattle.std.specs.List.{flat_map}
use Rattle.nm_yang.specs.Grammar.{IsKeyword}
use Rattle.nm_yang.specs.Module.{reading}
use Rattle.nm_yang.specs.Tree.{Tree, Trees, statement, none, more}

-- a byte between double quotes: line feed, tab, `"` and `\` by their escapes (RFC 7950 section 6.1.3)
abbrev pub escape_of : ℕ → List ℕ
escape_of b = if b == 10 then 92 ∷ 110 ∷ [] else (if b == 9 then 92 ∷ 116 ∷ [] else (if b == 34 || b == 92 then 92 ∷ b ∷ [] else b ∷ []))

-- an argument as it is written: a space, and the text between double quotes; nothing where there is no argument
abbrev pub written_argument : Option (List ℕ) → List ℕ
written_argument None = []
written_argument (Some a) = 32 ∷ 34 ∷ (flat_map escape_of a ++ 34 ∷ [])

unfoldable mutual
  -- a statement: its keyword, its argument, and `;` or what is within it in braces
  pub written : Tree → List ℕ
  written (statement keyword argument place below) = keyword ++ (written_argument argument ++ written_end below)

  -- the end of a statement: `;`, or in braces what is within it
  pub written_end : Trees → List ℕ
  written_end none = 59 ∷ []
  written_end (more t ts) = 32 ∷ 123 ∷ 32 ∷ (written t ++ 32 ∷ (written_each ts ++ 125 ∷ []))

  -- statements, and a space after each
  pub written_each : Trees → List ℕ
  written_each none = []
  written_each (more t ts) = written t ++ 32 ∷ written_each ts

-- a statement and a space
abbrev pub spaced : Tree → List ℕ
spaced t = written t ++ 32 ∷ []

-- ---- what a module can have

-- the keywords and arguments are those that a module can have, and at most so many braces are open at once
abbrev mutual
  pub CanHave : ℕ → Tree → Type 0
  CanHave depth (statement keyword argument place below) = IsKeyword keyword × IsUtf8 keyword × IfSome argument IsUtf8 × CanHold depth below

  -- what stands within a statement opens a brace, unless nothing stands there
  pub CanHold : ℕ → Trees → Type 0
  CanHold depth none = Unit {0}
  CanHold zero (more t ts) = ⊥
  CanHold (suc depth) (more t ts) = CanHave depth t × CanHoldEach depth ts

  -- each of these can stand within braces that are open
  pub CanHoldEach : ℕ → Trees → Type 0
  CanHoldEach depth none = Unit {0}
  CanHoldEach depth (more t ts) = CanHave depth t × CanHoldEach depth ts

-- the same keywords and arguments, wherever they stand
abbrev mutual
  pub SameWords : Tree → Tree → Type 0
  SameWords (statement k a p ts) (statement l b q us) = (k ≡ l) × (a ≡ b) × SameWordsEach ts us

  -- the same of statements beside one another
  pub SameWordsEach : Trees → Trees → Type 0
  SameWordsEach none none = Unit {0}
  SameWordsEach none (more u us) = ⊥
  SameWordsEach (more t ts) none = ⊥
  SameWordsEach (more t ts) (more u us) = SameWords t u × SameWordsEach ts us

-- a module: its keyword is `module`, and at most 64 braces are open at once
abbrev pub IsModule : Tree → Type 0
IsModule (statement keyword argument place below) = (keyword ≡ codes "module") × CanHave 64 (statement keyword argument place below)

-- a text is read as a statement with the same keywords and arguments
pub record ReadsAs (text : List ℕ) (t : Tree) : Type 0 where
  pub found : Tree
  pub is : reading text ≡ Ok found
  pub same : SameWords found t
