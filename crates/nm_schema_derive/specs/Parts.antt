-- Ranges and lengths within their base (RFC 7950 sections 9.2.4 and 9.4.4).
use Rattle.std.specs.Prelude.{ℕ, ℤ, Bool, ◌&&◌, List, [], ◌∷◌, ◌++◌, ◌==◌, if◌then◌else◌, Option, Some, None}
use Rattle.std.specs.List.{list_all, slice_split}
use Rattle.nm_schema_derive.specs.declared.form.NumberForm.{NumberForm}
use Rattle.nm_schema_derive.specs.Bound.{part_of}
use Rattle.nm_types.specs.Parts.{is_ascending}
use Rattle.nm_schema_derive.specs.Cover.{is_inside}

-- the byte `|`, which parts ranges and lengths (RFC 7950 section 14: range-arg)
abbrev pub is_bar : ℕ → Bool
is_bar b = b == 124

-- the pieces of a text, which `|` parts
abbrev pub pieces : List ℕ → List (List ℕ)
pieces text = slice_split is_bar text

-- a part before others, if all are there
abbrev pub joined : Option (ℤ × ℤ) → Option (List (ℤ × ℤ)) → Option (List (ℤ × ℤ))
joined None parts = None
joined (Some part) None = None
joined (Some part) (Some parts) = Some (part ∷ parts)

-- parts before others, if these are there
abbrev pub onto : List (ℤ × ℤ) → Option (List (ℤ × ℤ)) → Option (List (ℤ × ℤ))
onto front None = None
onto front (Some parts) = Some (front ++ parts)

-- the parts that pieces give, if each gives one
abbrev pub parts_from : NumberForm → List (ℤ × ℤ) → List (List ℕ) → Option (List (ℤ × ℤ))
parts_from form base [] = Some []
parts_from form base (piece ∷ rest) = joined (part_of form base piece) (parts_from form base rest)

-- the parts that a text gives
unfoldable pub parts_of : NumberForm → List (ℤ × ℤ) → List ℕ → Option (List (ℤ × ℤ))
parts_of form base text = parts_from form base (pieces text)

-- parts that ascend and are within the base
unfoldable pub chosen : List (ℤ × ℤ) → Option (List (ℤ × ℤ)) → Option (List (ℤ × ℤ))
chosen base None = None
chosen base (Some parts) = if is_ascending parts && list_all (is_inside base) parts then Some parts else None

-- the range or length that a text makes of a base, whose parts ascend
unfoldable pub parts_read : NumberForm → List (ℤ × ℤ) → List ℕ → Option (List (ℤ × ℤ))
parts_read form base text = if is_ascending base then chosen base (parts_of form base text) else None
