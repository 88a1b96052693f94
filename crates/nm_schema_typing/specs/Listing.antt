-- What is wrong with the `enum` and `bit` statements of types (RFC 7950 sections 9.6.4 and 9.7.4).
use Rattle.std.specs.Prelude.{◌≡◌, ℕ, Bool, true, false, ◌&&◌, ◌==◌, List, [], ◌∷◌, map, Option, Some, None, is_some, Result, Ok, Err, if◌then◌else◌, slice_get, slice_index_or}
use Rattle.nm_schema_statements.specs.declared.row.Row.{Row}
use Rattle.nm_schema_statements.specs.declared.flaw.Flaw.{Flaw}
use Rattle.nm_schema_statements.specs.declared.flaw.Flaw.TheVariants as flaw
use Rattle.nm_schema_statements.specs.declared.word.Word.{Word}
use Rattle.nm_schema_statements.specs.declared.word.Word.TheVariants as word
use Rattle.nm_schema_statements.specs.Rows.{first_below}
use Rattle.nm_schema_statements.specs.Flaw.{text_of}
use Rattle.nm_schema_derive.specs.declared.members.Listed.{Listed}
use Rattle.nm_schema_derive.specs.declared.members.Numbering.{Numbering}
use Rattle.nm_schema_derive.specs.declared.members.Numbering.TheVariants.{Values, Positions}
use Rattle.nm_schema_derive.specs.declared.members.ListFlaw.{ListFlaw}
use Rattle.nm_schema_derive.specs.declared.members.ListFlaw.TheVariants.{NameRepeated, BadNumber, NumberRepeated, NoNumberLeft, NotInBase, OtherThanBase}
use Rattle.nm_schema_derive.specs.declared.derived.StepFault.{StepFault}
use Rattle.nm_schema_derive.specs.declared.derived.StepFault.TheVariants.{Misplaced, BadArgument, Listed as AtListed, NoMemory}
use Rattle.nm_schema_derive.specs.Built.{Derivation}
use Rattle.nm_schema_derive.specs.Step.{with_names, with_bits}
use Rattle.nm_schema_typing.specs.declared.listing.Judged.{Judged}
use Rattle.nm_schema_typing.specs.declared.listing.Judged.TheVariants as judged
use Rattle.nm_schema_typing.specs.declared.listing.Judgement.{Judgement}
use Rattle.nm_schema_typing.specs.Restricting.{rows_with, listed_at}
use Rattle.nm_schema_typing.specs.Flaws.{base_above}

-- the statements with values are `enum`, those with positions `bit`
abbrev pub lister : Numbering → Word
lister Values = word.Enum
lister Positions = word.Bit

-- the statement that gives a member its number: `value` in an `enum`, `position` in a `bit`
abbrev pub numberer : Numbering → Word
numberer Values = word.Value
numberer Positions = word.Position

-- a type with names
abbrev pub with_some : Numbering → Derivation → List Listed → Result Derivation StepFault
with_some Values d statements = with_names d statements
with_some Positions d statements = with_bits d statements

-- a type with names, where any are given
abbrev pub with_listed : Numbering → Derivation → List Listed → Result Derivation StepFault
with_listed numbering d [] = Ok d
with_listed numbering d (s ∷ ss) = with_some numbering d (s ∷ ss)

-- a flaw of the statement of a row, where there is such a row
abbrev pub flawed_at : Option ℕ → ListFlaw → Judged
flawed_at None f = judged.Fine
flawed_at (Some row) f = judged.Flawed row f

-- what is wrong with the statements of some rows, by the step with them
abbrev pub judged_of : List ℕ → Result Derivation StepFault → Judged
judged_of numbers (Ok d) = judged.Fine
judged_of numbers (Err Misplaced) = judged.Misplaced
judged_of numbers (Err BadArgument) = judged.Fine
judged_of numbers (Err (AtListed k f)) = flawed_at (slice_get numbers k) f
judged_of numbers (Err NoMemory) = judged.Fine

-- what is wrong with the `enum` or `bit` statements in row i, which restrict a type
unfoldable pub judged_on : List Row → ℕ → Numbering → Derivation → Judged
judged_on rows i numbering d = judged_of (rows_with rows i (lister numbering))
    (with_listed numbering d (map (listed_at rows (numberer numbering)) (rows_with rows i (lister numbering))))

-- the same where the type is known; nothing is wrong where it isn't
abbrev pub judged_if : List Row → ℕ → Numbering → Option Derivation → Judged
judged_if rows i numbering None = judged.Fine
judged_if rows i numbering (Some d) = judged_on rows i numbering d

-- what is wrong with the `enum` or `bit` statements in the `type` statement of row i, if it is one
unfoldable pub judged_at : List Row → List (Option ℕ) → Numbering → ℕ → Judged
judged_at rows typedefs numbering i = judged_if rows i numbering (base_above rows typedefs (Some i))

-- the same of both
unfoldable pub judgement_at : List Row → List (Option ℕ) → ℕ → Judgement
judgement_at rows typedefs i = record { names = judged_at rows typedefs Values i; bits = judged_at rows typedefs Positions i }

-- nothing is wrong
abbrev pub all_fine : Judgement
all_fine = record { names = judged.Fine; bits = judged.Fine }

-- the judgements of all rows, in their order
abbrev pub AreJudgements : List Row → List (Option ℕ) → List Judgement → Type 0
AreJudgements rows typedefs judgements = (i : ℕ) → slice_index_or judgements i all_fine ≡ judgement_at rows typedefs i

-- what is wrong with the names, or with the bits
abbrev pub part_of : Numbering → Judgement → Judged
part_of Values j = j.names
part_of Positions j = j.bits

-- ---- at which statement, and how it is told (this project's own)

-- a flaw told at the `enum` or `bit` statement itself: a name that is there twice, no number that is left, and a name that the base lacks
abbrev pub own_flaw : Row → Bool → ListFlaw → Option Flaw
own_flaw r numbered NameRepeated = Some (flaw.Duplicate (text_of r.argument))
own_flaw r numbered NumberRepeated = if numbered then None else Some (flaw.Duplicate (text_of r.argument))
own_flaw r numbered BadNumber = None
own_flaw r numbered OtherThanBase = None
own_flaw r numbered NoNumberLeft = Some (flaw.BadArgument r.keyword)
own_flaw r numbered NotInBase = Some (flaw.BadArgument r.keyword)

-- the flaw that row `at` tells of its list: a list that has no place there is Unknown at each statement, a flawed statement only at its own
abbrev pub lister_flaw : ℕ → Row → Bool → Judged → Option Flaw
lister_flaw at r numbered judged.Fine = None
lister_flaw at r numbered judged.Misplaced = Some (flaw.Unknown r.keyword)
lister_flaw at r numbered (judged.Flawed row f) = if row == at then own_flaw r numbered f else None

-- a flaw told at the `value` or `position` statement: a number that is there twice, none, or another than the base's
abbrev pub number_flaw : Row → ListFlaw → Option Flaw
number_flaw r NameRepeated = None
number_flaw r NumberRepeated = Some (flaw.Duplicate (text_of r.argument))
number_flaw r BadNumber = Some (flaw.BadArgument r.keyword)
number_flaw r OtherThanBase = Some (flaw.BadArgument r.keyword)
number_flaw r NoNumberLeft = None
number_flaw r NotInBase = None

-- the flaw that the `value` or `position` in row `above` tells, where that is the flawed statement
abbrev pub numberer_flaw : ℕ → Row → Judged → Option Flaw
numberer_flaw above r judged.Fine = None
numberer_flaw above r judged.Misplaced = None
numberer_flaw above r (judged.Flawed row f) = if row == above then number_flaw r f else None

-- it is row `at`
abbrev pub is_at : Option ℕ → ℕ → Bool
is_at None at = false
is_at (Some n) at = n == at

-- what is wrong with the list that stands in row i
abbrev pub judged_above : List Row → List (Option ℕ) → Numbering → Option ℕ → Judged
judged_above rows typedefs numbering None = judged.Fine
judged_above rows typedefs numbering (Some i) = part_of numbering (judgement_at rows typedefs i)

-- the row that a row stands in
abbrev pub parent_in : Option Row → Option ℕ
parent_in None = None
parent_in (Some r) = r.parent

-- the flaw of the `enum` or `bit` statement of row `at`
abbrev pub flaw_of_lister : List Row → List (Option ℕ) → ℕ → Row → Numbering → Option Flaw
flaw_of_lister rows typedefs at r numbering =
    lister_flaw at r (is_some (first_below rows at (numberer numbering))) (judged_above rows typedefs numbering r.parent)

-- the flaw of the `value` or `position` statement of row `at`, which is the first in its `enum` or `bit`
abbrev pub flaw_of_numberer : List Row → List (Option ℕ) → ℕ → Row → Numbering → Option ℕ → Option Flaw
flaw_of_numberer rows typedefs at r numbering None = None
flaw_of_numberer rows typedefs at r numbering (Some above) =
    if is_at (first_below rows above (numberer numbering)) at
    then numberer_flaw above r (judged_above rows typedefs numbering (parent_in (slice_get rows above)))
    else None

-- the flaw of a row by its keyword; keywords that list nothing have none
abbrev pub listed_by : List Row → List (Option ℕ) → ℕ → Row → Word → Option Flaw
listed_by rows typedefs at r word.Enum = flaw_of_lister rows typedefs at r Values
listed_by rows typedefs at r word.Bit = flaw_of_lister rows typedefs at r Positions
listed_by rows typedefs at r word.Value = flaw_of_numberer rows typedefs at r Values r.parent
listed_by rows typedefs at r word.Position = flaw_of_numberer rows typedefs at r Positions r.parent
listed_by rows typedefs at r _ = None

-- the flaw of row `at`, where there is such a row
abbrev pub listed_in : List Row → List (Option ℕ) → ℕ → Option Row → Option Flaw
listed_in rows typedefs at None = None
listed_in rows typedefs at (Some r) = listed_by rows typedefs at r r.word

-- the flaw of an `enum`, `bit`, `value` or `position` statement; of those in one type the first flawed one has it
unfoldable pub listed_flaw : List Row → List (Option ℕ) → ℕ → Option Flaw
listed_flaw rows typedefs at = listed_in rows typedefs at (slice_get rows at)
