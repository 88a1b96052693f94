-- The types of leafs, after their derivation.
use Rattle.std.specs.Prelude.{ℕ, ℤ, List, Option}

-- a built-in type with what restricts its spellings (RFC 7950 section 9); bits by their names in order of position (RFC 7950 section 9.7.4.2)
pub data Kind : Type 0 where
  integer : ℤ → ℤ → Kind
  decimal : ℕ → Kind
  boolean : Kind
  string : Kind
  enumeration : List (List ℕ) → Kind
  bits : List (List ℕ) → Kind
  empty : Kind

-- a type: its kind, and the range or length that it is restricted to, a list of parts from the lowest to the highest number; along a derivation that is the
-- nearest one, since it is within those behind it (RFC 7950 sections 9.2.4 and 9.4.4)
pub record TypeOfLeaf : Type 0 where
  pub kind : Kind
  pub limits : Option (List (ℤ × ℤ))
