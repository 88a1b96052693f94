-- The accesses of a rule as a text (RFC 8341 section 5, `access-operations`): `*`, or words that one space parts, each once.
use Rattle.std.specs.Prelude.{◌≡◌, ◌⊎◌, ℕ, List, [], ◌∷◌, Bool, true, ◌==◌, ◌&&◌, ◌||◌, not, Option, Some, None, Result, Ok, Err, codes, if◌then◌else◌}
use Rattle.std.specs.List.{list_any, slice_split, join_with_byte}
use Rattle.std.specs.Str.{bytes_eq}
use Rattle.serde_json.specs.Data.{Data}
use Rattle.serde_json.specs.Find.{as_str}
use Rattle.nm_access.specs.declared.rule.Accesses.{Accesses}
use Rattle.nm_proto.specs.declared.kind.ScenarioKind.TheVariants.{BadValue}
use Rattle.nm_scenario_form.specs.declared.fault.Cause.{Cause}
use Rattle.nm_scenario_form.specs.Reading.{plain}
use Rattle.nm_scenario_form.specs.Form.{Form, leaf}

-- the parts of a text, which spaces part; where two spaces follow one another, or one stands first or last, a part is empty
abbrev pub parted : List ℕ → List (List ℕ)
parted text = slice_split (λ b. b == 32) text

-- a word for an access; reading isn't judged
abbrev pub is_access : List ℕ → Bool
is_access word =
    bytes_eq word (codes "create") || bytes_eq word (codes "read") || bytes_eq word (codes "update") || bytes_eq word (codes "delete")
    || bytes_eq word (codes "exec")

-- a word stands among others
abbrev pub has_word : List (List ℕ) → List ℕ → Bool
has_word words word = list_any (λ other. bytes_eq other word) words

-- words for accesses, each once
abbrev pub are_accesses : List (List ℕ) → Bool
are_accesses [] = true
are_accesses (word ∷ words) = is_access word && (not (has_word words word) && are_accesses words)

-- the accesses that words name
abbrev pub named : List (List ℕ) → Accesses
named words = record {
  create = has_word words (codes "create");
  update = has_word words (codes "update");
  delete = has_word words (codes "delete");
  exec = has_word words (codes "exec");
}

-- all accesses
abbrev pub all_accesses : Accesses
all_accesses = record { create = true; update = true; delete = true; exec = true }

-- the accesses of words, where they are words for accesses, each once
abbrev pub of_words : List (List ℕ) → Result Accesses Cause
of_words words = if are_accesses words then Ok (named words) else Err (plain BadValue)

-- the accesses that a text names
abbrev pub accesses_in : Option (List ℕ) → Result Accesses Cause
accesses_in None = Err (plain BadValue)
accesses_in (Some text) = if bytes_eq text (codes "*") then Ok all_accesses else of_words (parted text)

-- the accesses that a part names
unfoldable pub accesses_said : Data → Result Accesses Cause
accesses_said part = accesses_in (as_str part)

-- the accesses of a rule
abbrev pub accesses : Form Accesses
accesses = leaf accesses_said

-- ---- the same in words of its own

-- a text is words for accesses, each once, with one space between each two, and these are the accesses that they name
pub record SpellsWords (text : List ℕ) (a : Accesses) : Type 0 where
  pub first : List ℕ
  pub others : List (List ℕ)
  pub joined : text ≡ join_with_byte 32 (first ∷ others)
  pub words : are_accesses (first ∷ others) ≡ true
  pub names : a ≡ named (first ∷ others)

-- a text spells accesses: `*` all of them
abbrev pub SpellsAccesses : List ℕ → Accesses → Type 0
SpellsAccesses text a = ((text ≡ codes "*") × (a ≡ all_accesses)) ⊎ SpellsWords text a
