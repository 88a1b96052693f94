-- Bits in order of position (RFC 7950 section 9.7.4.2).
use Rattle.std.specs.Prelude.{ℕ, List, [], ◌∷◌, map, fold, nat_lt, nat_abs, if◌then◌else◌}
use Rattle.nm_schema_derive.specs.declared.members.Member.{Member}

-- a bit with its position
abbrev pub bit_of : Member → List ℕ × ℕ
bit_of member = (member.name, nat_abs member.number)

-- the name of a bit
abbrev pub bit_name : List ℕ × ℕ → List ℕ
bit_name bit = bit.0

-- a bit among others in order of position, behind those of its position
unfoldable pub insert_bit : List (List ℕ × ℕ) → List ℕ × ℕ → List (List ℕ × ℕ)
insert_bit [] b = b ∷ []
insert_bit (c ∷ cs) b = if nat_lt b.1 c.1 then b ∷ c ∷ cs else c ∷ insert_bit cs b

-- the bits in order of position
unfoldable pub in_order : List (List ℕ × ℕ) → List (List ℕ × ℕ)
in_order all = fold insert_bit [] all

-- the names of the bits in that order
abbrev pub names_in_order : List Member → List (List ℕ)
names_in_order members = map bit_name (in_order (map bit_of members))
