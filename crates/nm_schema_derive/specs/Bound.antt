-- The parts of a range or a length, as a text gives them (RFC 7950 sections 9.2.4 and 9.4.4).
use Rattle.std.specs.Prelude.{ℕ, ◌+◌, ◌-◌, ℤ, ◌&&◌, List, [], ◌∷◌, length, take, drop, codes, ◌==◌, if◌then◌else◌, slice_index, slice_get, Option, Some, None, option_map}
use Rattle.std.specs.Str.{bytes_eq}
use Rattle.nm_schema_derive.specs.declared.form.NumberForm.{NumberForm}
use Rattle.nm_schema_derive.specs.Form.{number_of}
use Rattle.nm_schema_derive.specs.Blank.{trimmed}

-- where the first `..` of a text stands, and its length where there is none
abbrev pub dots_at : List ℕ → ℕ
dots_at [] = 0
dots_at (b ∷ bs) = if b == 46 && slice_index bs 0 == 46 then 0 else dots_at bs + 1

-- the least number of a part
abbrev pub low_end : ℤ × ℤ → ℤ
low_end part = part.0

-- the greatest number of a part
abbrev pub high_end : ℤ × ℤ → ℤ
high_end part = part.1

-- the lowest number of ascending parts
unfoldable pub lowest : List (ℤ × ℤ) → Option ℤ
lowest base = option_map low_end (slice_get base 0)

-- the highest number of ascending parts
unfoldable pub highest : List (ℤ × ℤ) → Option ℤ
highest base = option_map high_end (slice_get base (length base - 1))

-- the number of a bound: `min` and `max` are the lowest and the highest number of the base (RFC 7950 sections 9.2.4 and 9.4.4)
unfoldable pub bound_of : NumberForm → List (ℤ × ℤ) → List ℕ → Option ℤ
bound_of form base text =
    if bytes_eq text (codes "min") then lowest base else (
    if bytes_eq text (codes "max") then highest base else number_of form text)

-- a part from one bound to another
abbrev pub between : Option ℤ → Option ℤ → Option (ℤ × ℤ)
between None high = None
between (Some low) None = None
between (Some low) (Some high) = Some (low, high)

-- the part that a text gives: one bound, or two with `..` between them
unfoldable pub part_of : NumberForm → List (ℤ × ℤ) → List ℕ → Option (ℤ × ℤ)
part_of form base text =
    if dots_at text == length text
    then between (bound_of form base (trimmed text)) (bound_of form base (trimmed text))
    else between (bound_of form base (trimmed (take (dots_at text) text))) (bound_of form base (trimmed (drop (dots_at text + 2) text)))
