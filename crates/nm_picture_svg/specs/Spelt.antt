-- What a reader of XML takes bytes for (W3C, Extensible Markup Language 1.0, sections 2.2, 2.4 and 4.6), however they are written: for laws.
use Rattle.std.specs.Prelude.{◌≡◌, ℕ, List, [], ◌∷◌, ◌++◌, codes, false, true}
use Rattle.nm_picture_svg.specs.Xml.{is_forbidden, is_markup}

-- the bytes are character data, within an element or a value in quotes of either kind, that means a text
pub data Means : List ℕ → List ℕ → Type 0 where
  nothing : Means [] []
  -- a character that has no meaning of its own
  itself : (byte : ℕ) (text bytes : List ℕ) → is_markup byte ≡ false → is_forbidden byte ≡ false → Means text bytes → Means (byte ∷ text) (byte ∷ bytes)
  less : (text bytes : List ℕ) → Means text bytes → Means (60 ∷ text) (codes "&lt;" ++ bytes)
  greater : (text bytes : List ℕ) → Means text bytes → Means (62 ∷ text) (codes "&gt;" ++ bytes)
  ampersand : (text bytes : List ℕ) → Means text bytes → Means (38 ∷ text) (codes "&amp;" ++ bytes)
  quote : (text bytes : List ℕ) → Means text bytes → Means (34 ∷ text) (codes "&quot;" ++ bytes)
  apostrophe : (text bytes : List ℕ) → Means text bytes → Means (39 ∷ text) (codes "&apos;" ++ bytes)
  -- a character that may not stand in XML is lost
  lost : (byte : ℕ) (text bytes : List ℕ) → is_forbidden byte ≡ true → Means text bytes → Means (byte ∷ text) (63 ∷ bytes)
