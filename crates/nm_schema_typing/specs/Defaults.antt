-- Defaults (RFC 7950 sections 7.3.4, 7.6.1, 7.6.4 and 9.11).
use Rattle.std.specs.Prelude.{ℕ, Bool, true, false, not, ◌==◌, ◌&&◌, ◌||◌, List, [], ◌∷◌, codes, length, Option, Some, None, Result, Ok, Err, if◌then◌else◌, slice_get}
use Rattle.std.specs.Str.{bytes_eq}
use Rattle.std.specs.Str.Parse.{without_leading_sign}
use Rattle.nm_graph.specs.Value.{strict}
use Rattle.nm_types.specs.declared.value.Value.{Value}
use Rattle.nm_types.specs.declared.fault.ValueFault.{ValueFault}
use Rattle.nm_types.specs.LeafType.{Kind, integer, empty, TypeOfLeaf}
use Rattle.nm_types.specs.Reading.{reading}
use Rattle.nm_schema_statements.specs.declared.row.Row.{Row}
use Rattle.nm_schema_statements.specs.declared.flaw.Flaw.{Flaw}
use Rattle.nm_schema_statements.specs.declared.flaw.Flaw.TheVariants as flaw
use Rattle.nm_schema_statements.specs.declared.word.Word.{Word}
use Rattle.nm_schema_statements.specs.declared.word.Word.TheVariants as word
use Rattle.nm_schema_statements.specs.Word.{same_word}
use Rattle.nm_schema_derive.specs.Kinds.{leaf_type_of}
use Rattle.nm_schema_typing.specs.Restricting.{argument_below}
use Rattle.nm_schema_typing.specs.TypeGraph.{is_typed, is_type, leads}
use Rattle.nm_schema_typing.specs.Meaning.{Meaning, plain, reference}
use Rattle.nm_schema_typing.specs.Along.{within, meaning_of}

-- ---- which texts may be defaults

-- the type `empty`, which may have no default (RFC 7950 section 9.11.1)
abbrev pub is_empty : Kind → Bool
is_empty empty = true
is_empty _ = false

-- a zero before other digits
abbrev pub has_leading_zero : List ℕ → Bool
has_leading_zero [] = false
has_leading_zero (d ∷ []) = false
has_leading_zero (d ∷ e ∷ digits) = d == 48

-- an integer in octal notation, which a default may have and which isn't taken here: a zero stands before other digits (RFC 7950 section 9.2.1)
abbrev pub is_octal : Kind → List ℕ → Bool
is_octal (integer low high) text = has_leading_zero (without_leading_sign text)
is_octal _ text = false

-- reading gave a value
abbrev pub is_read : Result Value ValueFault → Bool
is_read (Ok v) = true
is_read (Err fault) = false

-- a value of the type, which isn't empty, and an integer in decimal notation (RFC 7950 sections 7.6.4, 9.2.1 and 9.11.1)
abbrev pub fits_type : List ℕ → Option TypeOfLeaf → Bool
fits_type text None = true
fits_type text (Some t) = if is_empty t.kind || is_octal t.kind text then false else is_read (reading t text)

-- a leafref's default isn't judged by its type alone (RFC 7950 section 9.9)
abbrev pub fits : List ℕ → Option Meaning → Bool
fits text None = true
fits text (Some (plain d)) = fits_type text (leaf_type_of d)
fits text (Some (reference p)) = true

-- whether a text may be a default of row i, a leaf or typedef; where that has no meaning, each may
unfoldable pub is_default : List Row → List (Option ℕ) → ℕ → List ℕ → Bool
is_default rows typedefs i text = fits text (meaning_of rows typedefs i)

-- a text, if there is one, is `true`
abbrev pub is_true : Option (List ℕ) → Bool
is_true None = false
is_true (Some text) = bytes_eq text (codes "true")

-- row i is mandatory: it must have a value of its own (RFC 7950 section 7.6.5)
unfoldable pub is_mandatory : List Row → ℕ → Bool
is_mandatory rows i = is_true (argument_below rows i word.Mandatory)

-- the flaw of a default by the row that it stands in: its text may not be a default there, or the row is mandatory and has none (RFC 7950
-- section 7.6.4); nothing where either is missing
abbrev pub default_in : List Row → List (Option ℕ) → Row → Option (List ℕ) → Option ℕ → Option Flaw
default_in rows typedefs r None parent = None
default_in rows typedefs r (Some text) None = None
default_in rows typedefs r (Some text) (Some i) = if is_default rows typedefs i text && not (is_mandatory rows i) then None else Some (flaw.BadArgument r.keyword)

-- the flaw of a row, if it is a `default` statement
abbrev pub default_by : List Row → List (Option ℕ) → Option Row → Option Flaw
default_by rows typedefs None = None
default_by rows typedefs (Some r) = if same_word r.word word.Default then default_in rows typedefs r r.argument r.parent else None

-- the flaw of a `default` statement: its text may not be a default of the leaf or typedef that it stands in, or the leaf is mandatory
unfoldable pub default_flaw : List Row → List (Option ℕ) → ℕ → Option Flaw
default_flaw rows typedefs at = default_by rows typedefs (slice_get rows at)

-- ---- which default a row has

-- the first text where there is one, else the second
abbrev pub own_or : Option (List ℕ) → Option (List ℕ) → Option (List ℕ)
own_or None base = base
own_or (Some text) base = Some text

-- the default of a row, from that of its type: a leaf and a typedef may say their own, a `type` statement passes on what it is given
abbrev pub default_from : List Row → ℕ → Option (List ℕ) → Option Row → Option (List ℕ)
default_from rows i base None = None
default_from rows i base (Some r) = if is_typed r.word then own_or (argument_below rows i word.Default) base else (if is_type r.word then base else None)

-- the default of row i, by that of the row that it leads to: its own, or that of its type (RFC 7950 section 7.6.1)
unfoldable pub default_at : List Row → ℕ → Option (List ℕ) → Option (List ℕ)
default_at rows i base = default_from rows i base (slice_get rows i)

-- no text where none is known
abbrev pub joined : Option (Option (List ℕ)) → Option (List ℕ)
joined None = None
joined (Some text) = text

-- the text of the first, where there is one
abbrev pub first_text : List (Option (List ℕ)) → Option (Option (List ℕ))
first_text [] = None
first_text (text ∷ texts) = Some text

-- the default of row i, once it is known what the rows that it leads to have
abbrev pub default_step : List Row → ℕ → List (Option (List ℕ)) → Option (Option (List ℕ))
default_step rows i known = Some (default_at rows i (joined (first_text known)))

-- the default of row i: a leaf's or typedef's own, else that of the typedef that its type names, and so on (RFC 7950 section
-- 7.6.1); none where types lead to themselves
unfoldable pub default_of : List Row → List (Option ℕ) → ℕ → Option (List ℕ)
default_of rows typedefs i = joined (within (strict (default_step rows)) (leads rows typedefs) (length rows) i)
