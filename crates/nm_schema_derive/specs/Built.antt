-- Types after some steps of their derivation.
use Rattle.std.specs.Prelude.{ℕ, ℤ, List, Option, All, ⊤}
use Rattle.nm_schema_derive.specs.declared.members.Member.{Member}
use Rattle.nm_schema_derive.specs.Members.{IsPosition}

-- what a type is built as: a built-in type with what it cannot do without, or still without that (RFC 7950 section 9)
pub data Built : Type 0 where
  integer : ℤ → ℤ → Built
  bare_decimal : Built
  decimal : ℕ → Built
  boolean : Built
  string : Built
  bare_names : Built
  names : List Member → Built
  bare_bits : Built
  bits : List Member → Built
  empty : Built
  reference : Built

-- a type: what it is built as, and the nearest range or length along its derivation, which is within each of those
-- behind it (RFC 7950 sections 9.2.4 and 9.4.4)
pub record Derivation : Type 0 where
  pub built : Built
  pub limits : Option (List (ℤ × ℤ))

-- the bits of a type have positions
abbrev pub HasPositions : Built → Type 0
HasPositions (bits members) = All IsPosition members
HasPositions _ = ⊤
