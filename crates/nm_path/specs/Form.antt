-- The form of path texts, apart from any schema (this project's own, after RFC 7950 section 9.13).
use Rattle.std.specs.Prelude.{◌≡◌, ℕ, List, [], ◌∷◌, ◌++◌, codes, Bool, true, false, ◌==◌, ◌&&◌, ◌||◌, ◌⊎◌, nat_le, Option, Some, None, is_some, if◌then◌else◌, ⊤}
use Rattle.std.specs.List.{flat_map, list_all, list_any, AllByRecursion}
use Rattle.nm_path.specs.declared.form.Quote.{Quote}
use Rattle.nm_path.specs.declared.form.Quote.TheVariants.{Single, Double}
use Rattle.nm_path.specs.declared.form.Predicate.{Predicate}

-- a step as it is written: the module before its name, if there is one, its name, and its predicates
pub record WrittenStep : Type 0 where
  pub owner : Option (List ℕ)
  pub name : List ℕ
  pub predicates : List Predicate

-- a quote, twice if it is single
abbrev pub twice_if_quote : ℕ → List ℕ
twice_if_quote b = if b == 39 then 39 ∷ 39 ∷ [] else b ∷ []

-- a text with each single quote doubled
abbrev pub doubled : List ℕ → List ℕ
doubled text = flat_map twice_if_quote text

-- a value between its quotes; between single quotes a single quote is doubled, and between double quotes all bytes stand for themselves
abbrev pub quoted : Quote → List ℕ → List ℕ
quoted Single value = 39 ∷ (doubled value ++ 39 ∷ [])
quoted Double value = 34 ∷ (value ++ 34 ∷ [])

-- a predicate: `[key='value']`
abbrev pub predicate_text : Predicate → List ℕ
predicate_text p = 91 ∷ (p.key ++ 61 ∷ (quoted p.quote p.value ++ 93 ∷ []))

-- predicates, one after another
abbrev pub predicates_text : List Predicate → List ℕ
predicates_text ps = flat_map predicate_text ps

-- `module:`, if there is a module
abbrev pub owner_text : Option (List ℕ) → List ℕ
owner_text None = []
owner_text (Some owner) = owner ++ 58 ∷ []

-- a step: `/`, its module and a colon if they are written, its name, and its predicates
abbrev pub step_text : WrittenStep → List ℕ
step_text s = 47 ∷ (owner_text s.owner ++ s.name ++ predicates_text s.predicates)

-- steps, one after another
abbrev pub steps_text : List WrittenStep → List ℕ
steps_text steps = flat_map step_text steps

-- ---- which of them are written

-- an ASCII letter or `_` (RFC 7950 section 6.2)
unfoldable pub is_start : ℕ → Bool
is_start b = (nat_le 97 b && nat_le b 122) || (nat_le 65 b && nat_le b 90) || b == 95

-- what an identifier goes on with: also digits, `-` and `.` (RFC 7950 section 6.2)
unfoldable pub is_name : ℕ → Bool
is_name b = is_start b || (nat_le 48 b && nat_le b 57) || b == 45 || b == 46

-- each byte may go on an identifier (RFC 7950 section 6.2)
abbrev pub are_names : List ℕ → Bool
are_names bytes = list_all (λ b. is_name b) bytes

-- an identifier: a letter or `_`, then letters, digits, `_`, `-` and `.` (RFC 7950 section 6.2)
abbrev pub is_identifier : List ℕ → Bool
is_identifier [] = false
is_identifier (b ∷ bytes) = is_start b && are_names bytes

-- a value has a double quote in it, so that it can't be written between double quotes
abbrev pub has_double : List ℕ → Bool
has_double value = list_any (λ b. b == 34) value

-- no double quote stands between double quotes
abbrev pub CanStand : Quote → List ℕ → Type 0
CanStand Single value = ⊤
CanStand Double value = has_double value ≡ false

-- a predicate names a key by an identifier, or the entry of a leaf-list by `.`
pub record IsPredicate (p : Predicate) : Type 0 where
  pub key : (p.key ≡ codes ".") ⊎ (is_identifier p.key ≡ true)
  pub value : CanStand p.quote p.value

-- a module that is written in a step is an identifier; it may be left out
abbrev pub IsOwner : Option (List ℕ) → Type 0
IsOwner None = ⊤
IsOwner (Some owner) = is_identifier owner ≡ true

-- the module and the name of a step are identifiers
pub record IsWritten (s : WrittenStep) : Type 0 where
  pub owner : IsOwner s.owner
  pub name : is_identifier s.name ≡ true
  pub predicates : AllByRecursion IsPredicate s.predicates

-- there is a step, and the first has its module
abbrev pub is_from_top : List WrittenStep → Bool
is_from_top [] = false
is_from_top (s ∷ steps) = is_some s.owner

-- a text has the form of a path: it is the text of these steps
pub record HasForm (text : List ℕ) (steps : List WrittenStep) : Type 0 where
  pub whole : text ≡ steps_text steps
  pub top : is_from_top steps ≡ true
  pub each : AllByRecursion IsWritten steps
