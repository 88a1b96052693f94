-- How a place is told: as a JSON pointer (RFC 6901).
use Rattle.std.specs.Prelude.{◌≡◌, ◌≤◌, ℕ, zero, suc, List, [], ◌∷◌, ◌++◌, take, get_or, codes, decimal, Bool, ◌||◌, ◌==◌, nat_lt, nat_le, if◌then◌else◌}
use Rattle.std.specs.List.{flat_map}
use Rattle.std.specs.Str.{IsCharBoundary}
use Rattle.nm_scenario_form.specs.declared.fault.Step.{Step}
use Rattle.nm_scenario_form.specs.declared.fault.Step.TheVariants.{Name, Item}

-- a byte of a name: `~` and `/` as RFC 6901 section 3 writes them, and a character below U+0020 as `?` (this project's own)
abbrev pub escaped : ℕ → List ℕ
escaped byte =
    if nat_lt byte 32 then codes "?"
    else (if byte == 126 then codes "~0" else (if byte == 47 then codes "~1" else byte ∷ []))

-- one step of the way: a member by its name, an item by its number from 0 (RFC 6901 section 4)
abbrev pub step_text : Step → List ℕ
step_text (Name name) = codes "/" ++ flat_map escaped name
step_text (Item place) = codes "/" ++ decimal place

-- the whole way, however long; the whole of a JSON value is `/` (this project's own)
abbrev pub way_text : List Step → List ℕ
way_text [] = codes "/"
way_text (step ∷ steps) = flat_map step_text (step ∷ steps)

-- a character of UTF-8 begins with this byte (RFC 3629 section 3)
abbrev pub begins_character : ℕ → Bool
begins_character byte = nat_lt byte 128 || nat_le 192 byte

-- the greatest place up to n at which a character begins or the text is over
abbrev pub cut_place : List ℕ → ℕ → ℕ
cut_place text zero = 0
cut_place text (suc n) = if begins_character (get_or text (suc n) 0) then suc n else cut_place text n

-- the longest front of whole characters in at most so many bytes
unfoldable pub cut_text : ℕ → List ℕ → List ℕ
cut_text limit text = take (cut_place text limit) text

-- how many bytes a pointer has at most (this project's own)
abbrev pub pointer_limit : ℕ
pointer_limit = 4096

-- a place as a JSON pointer, cut where it is too long
unfoldable pub pointer_of : List Step → List ℕ
pointer_of place = cut_text pointer_limit (way_text place)

-- ---- what holds of every pointer

-- a byte that isn't below 32, and so ends no line
abbrev pub IsPrintable : ℕ → Type 0
IsPrintable byte = 32 ≤ byte

-- a front of at most so many bytes that ends where a character does, and no longer front does
pub record IsLongestFront (limit : ℕ) (text front : List ℕ) : Type 0 where
  pub end : ℕ
  pub is : front ≡ take end text
  pub whole : IsCharBoundary text end
  pub within : end ≤ limit
  pub longest : (other : ℕ) → other ≤ limit → IsCharBoundary text other → other ≤ end
