-- Names of an enumeration or of bits: each once, and each at its place.
use Rattle.std.specs.Prelude.{◌≡◌, ℕ, Bool, true, not, ◌&&◌, ◌+◌, nat_lt, List, [], ◌∷◌, length, get_or, if◌then◌else◌, Option, Some, None, option_map}
use Rattle.std.specs.List.{list_any}
use Rattle.std.specs.Str.{bytes_eq}
use Rattle.std.specs.Ordering.{nat_cmp}
use Rattle.std.specs.Cmp.Lexicographic.{slice_cmp}
use Rattle.std.specs.BTreeMap.{BTreeMap, get}
use Rattle.std.specs.BTreeSet.{BTreeSet, contains}

-- whether a text is one of these
abbrev pub has_text : List (List ℕ) → List ℕ → Bool
has_text texts text = list_any (λ t. bytes_eq t text) texts

-- whether each text is another than those behind it (RFC 7950 sections 9.6.4 and 9.7.4)
unfoldable pub is_once : List (List ℕ) → Bool
is_once [] = true
is_once (t ∷ ts) = not (has_text ts t) && is_once ts

-- where a text stands among others, from 0
unfoldable pub place_in : List ℕ → List (List ℕ) → Option ℕ
place_in text [] = None
place_in text (t ∷ ts) = if bytes_eq t text then Some 0 else option_map (λ place. 1 + place) (place_in text ts)

-- a map that finds the place of each name
abbrev pub Finds : List (List ℕ) → BTreeMap (List ℕ) ℕ → Type 0
Finds names places = (name : List ℕ) → get (slice_cmp nat_cmp) places name ≡ place_in name names

-- whether a name stands at a place that is one of some words
abbrev pub is_chosen : List (List ℕ) → List (List ℕ) → ℕ → Bool
is_chosen names ws place = nat_lt place (length names) && has_text ws (get_or names place [])

-- a set of the places whose names are among some words
abbrev pub Chooses : List (List ℕ) → List (List ℕ) → BTreeSet ℕ → Type 0
Chooses names ws places = (place : ℕ) → contains nat_cmp places place ≡ is_chosen names ws place
