-- How values are spelled: a relation between a text and a value of a type (RFC 7950 section 9).
use Rattle.std.specs.Prelude.{◌≡◌, ℕ, ◌*◌, ◌^◌, ℤ, pos, neg_ℤ, true, false, List, [], ◌∷◌, ◌++◌, length, codes, Contains, ⊤}
use Rattle.std.specs.Str.Parse.{IsNumeral, digits_value}
use Rattle.nm_types.specs.declared.value.Value.{Value}
use Rattle.nm_types.specs.declared.value.Value.TheVariants.{Int, Decimal, Text, Name, Bits, Empty, Bool as Flag}
use Rattle.nm_types.specs.LeafType.{Kind, integer, decimal, boolean, string, enumeration, bits, empty}
use Rattle.nm_types.specs.Reading.{words, bits_text, are_characters}

-- a text is a sign and a rest that spells a magnitude: without a sign and with + it spells that number, with - its negation (RFC 7950 section 9.2.1)
pub data IsSigned (text rest : List ℕ) (magnitude : ℕ) (z : ℤ) : Type 0 where
  unsigned : text ≡ rest → z ≡ pos magnitude → IsSigned text rest magnitude z
  plus : text ≡ 43 ∷ rest → z ≡ pos magnitude → IsSigned text rest magnitude z
  minus : text ≡ 45 ∷ rest → z ≡ neg_ℤ (pos magnitude) → IsSigned text rest magnitude z

-- an integer: an optional sign and one decimal digit or more (RFC 7950 section 9.2.1)
pub record SpellsInteger (text : List ℕ) (z : ℤ) : Type 0 where
  pub digits : List ℕ
  pub number : IsNumeral 10 digits
  pub signed : IsSigned text digits (digits_value 10 digits) z

-- digits, and where there is a point, digits behind it (RFC 7950 section 9.3.1)
pub data HasParts (rest whole part : List ℕ) : Type 0 where
  pointless : rest ≡ whole → part ≡ [] → HasParts rest whole part
  pointed : rest ≡ whole ++ 46 ∷ part → IsNumeral 10 part → HasParts rest whole part

-- a decimal: the number that is written, digits before and behind a point, is the scaled value over 10 to the power of the
-- fraction digits (RFC 7950 sections 9.3.1 and 9.3.4); so zeros may follow those digits, and no other digit
pub record SpellsDecimal (digits : ℕ) (text : List ℕ) (z : ℤ) : Type 0 where
  pub rest : List ℕ
  pub whole : List ℕ
  pub part : List ℕ
  pub scaled : ℕ
  pub number : IsNumeral 10 whole
  pub parts : HasParts rest whole part
  pub same : digits_value 10 (whole ++ part) * 10 ^ digits ≡ scaled * 10 ^ length part
  pub signed : IsSigned text rest scaled z

-- words are names, and each is another than those behind it
abbrev pub AreNames : List (List ℕ) → List (List ℕ) → Type 0
AreNames names [] = ⊤
AreNames names (w ∷ ws) = Contains names w × ¬ (Contains ws w) × AreNames names ws

-- each name is another than those behind it
abbrev pub IsOnce : List (List ℕ) → Type 0
IsOnce [] = ⊤
IsOnce (w ∷ ws) = ¬ (Contains ws w) × IsOnce ws

-- a type as RFC 7950 section 9.7.4 wants it: no two bits have one name
abbrev pub HasDistinctNames : Kind → Type 0
HasDistinctNames (bits names) = IsOnce names
HasDistinctNames _ = ⊤

-- bits: names in any order, each once, with runs of spaces between and around them (RFC 7950 section 9.7.2; the runs are this project's own)
pub record SpellsBits (names : List (List ℕ)) (text set : List ℕ) : Type 0 where
  pub named : AreNames names (words text)
  pub canonical : set ≡ bits_text names (words text)

-- a text spells a value of a kind (RFC 7950 section 9)
abbrev pub SpellsValue : Kind → List ℕ → Value → Type 0
SpellsValue (integer low high) text (Int z) = SpellsInteger text z
SpellsValue (decimal digits) text (Decimal z d) = (d ≡ digits) × SpellsDecimal digits text z
SpellsValue boolean text (Flag true) = text ≡ codes "true"
SpellsValue boolean text (Flag false) = text ≡ codes "false"
SpellsValue string text (Text t) = (t ≡ text) × (are_characters text ≡ true)
SpellsValue (enumeration names) text (Name t) = (t ≡ text) × Contains names text
SpellsValue (bits names) text (Bits t) = SpellsBits names text t
SpellsValue empty text Empty = text ≡ []
SpellsValue _ _ _ = ⊥
