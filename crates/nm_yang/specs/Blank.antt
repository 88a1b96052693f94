-- What stands between tokens: white space and comments (RFC 7950 section 6.1.1).
use Rattle.std.specs.Prelude.{ℕ, List, [], ◌∷◌, Bool, false, ◌==◌, ◌&&◌, Result, Ok, Err, if◌then◌else◌}
use Rattle.nm_yang.specs.declared.fault.Fault.{Fault}
use Rattle.nm_yang.specs.declared.fault.YangKind.TheVariants.{UnclosedComment}
use Rattle.nm_yang.specs.Page.{Page, bad, place_of, at_end}
use Rattle.nm_yang.specs.Byte.{is_white, begins}

-- between tokens, in a comment to the end of the line, at the `*` of a `/*`, or within such a comment, which
-- opened at a place, after a `*` or not
pub data Mode : Type 0 where
  plain : Mode
  line : Mode
  star : ℕ → Mode
  block : ℕ → Bool → Mode

-- the rest after white space and comments
unfoldable pub skip : Page → Mode → List ℕ → Result (List ℕ) Fault
skip page plain [] = Ok []
skip page plain (b ∷ rest) = if is_white b then skip page plain rest else (
    if b == 47 && begins rest 47 then skip page line rest else (
    if b == 47 && begins rest 42 then skip page (star (place_of page (b ∷ rest))) rest else Ok (b ∷ rest)))
skip page line [] = Ok []
skip page line (b ∷ rest) = if b == 10 then skip page plain rest else skip page line rest
skip page (star opener) [] = Err (at_end page (bad opener UnclosedComment))
skip page (star opener) (b ∷ rest) = skip page (block opener false) rest
skip page (block opener starred) [] = Err (at_end page (bad opener UnclosedComment))
skip page (block opener starred) (b ∷ rest) = if starred && b == 47 then skip page plain rest else skip page (block opener (b == 42)) rest
