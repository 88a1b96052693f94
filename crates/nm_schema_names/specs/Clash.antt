-- Two nodes of one name in one statement, and two cases of one name in one choice (RFC 7950 sections 6.2.1, 7.9 and 7.13).
use Rattle.std.specs.Prelude.{◌≡◌, ℕ, zero, suc, ◌<◌, List, [], ◌∷◌, ◌++◌, length, map, filter, Bool, true, false, not, ◌&&◌, ◌||◌, Option, Some, None, unwrap_or, option_to_list, if◌then◌else◌, slice_get, slice_index_or, get_or}
use Rattle.std.specs.Str.{bytes_eq}
use Rattle.std.specs.List.{find, list_any, range_with_len}
use Rattle.std.specs.Option.{option_or}
use Rattle.nm_schema_statements.specs.declared.word.Word.{Word}
use Rattle.nm_schema_statements.specs.declared.word.Word.TheVariants as word
use Rattle.nm_schema_statements.specs.declared.row.Row.{Row}
use Rattle.nm_schema_statements.specs.declared.flaw.Flaw.{Flaw}
use Rattle.nm_schema_statements.specs.declared.flaw.Flaw.TheVariants as flaw
use Rattle.nm_schema_statements.specs.Rows.{same_parent, has_word}
use Rattle.nm_graph.specs.Graph.{Graph, successors_of}
use Rattle.nm_schema_uses.specs.Arguments.{argument_at}
use Rattle.nm_schema_uses.specs.Holding.{is_part_at, is_fork_at, is_node, is_uses, grouping_at}
use Rattle.nm_schema_uses.specs.Members.{gathered, is_astray}
use Rattle.nm_schema_uses.specs.Worth.{worth_of, AreWorth}

-- the names of what a row brings
abbrev pub names_from : List Row → Option (List ℕ) → List (List ℕ)
names_from rows nodes = map (argument_at rows) (unwrap_or nodes [])

-- a name is among these
abbrev pub has_name : List (List ℕ) → List ℕ → Bool
has_name [] name = false
has_name (n ∷ names) name = bytes_eq name n || has_name names name

-- the row that a row stands in
abbrev pub around_in : Option Row → Option ℕ
around_in None = None
around_in (Some r) = r.parent

-- the row that row i stands in
abbrev pub around : List Row → ℕ → Option ℕ
around rows i = around_in (slice_get rows i)

-- the first of a row and those around it that is neither a choice nor a case; at most so many
abbrev pub beyond : ℕ → List Row → Option ℕ → Option ℕ
beyond steps rows None = None
beyond zero rows (Some i) = None
beyond (suc steps) rows (Some i) = if is_fork_at rows i then beyond steps rows (around rows i) else Some i

-- what a node, a uses, a choice or a case stands in, choices and cases left aside (RFC 7950 section 7.9); each stands before what is in it, so there
-- are at most i
unfoldable pub holder_of : List Row → ℕ → Option ℕ
holder_of rows i = if is_part_at rows i then beyond i rows (around rows i) else None

-- a row below `at` that stands in row h brings the name
unfoldable pub is_taken : (ℕ → Option (List ℕ)) → List Row → ℕ → ℕ → List ℕ → Bool
is_taken bring rows h zero name = false
is_taken bring rows h (suc k) name = (same_parent (holder_of rows k) (Some h) && has_name (names_from rows (bring k)) name) || is_taken bring rows h k name

-- the first name that `at` brings to row h and that an earlier row brings there too
abbrev pub clash_in : (ℕ → Option (List ℕ)) → List Row → ℕ → Option ℕ → Option (List ℕ)
clash_in bring rows at None = None
clash_in bring rows at (Some h) = find (is_taken bring rows h at) (names_from rows (bring at))

-- the first name that row `at` brings to where it stands and that an earlier row brings there already
unfoldable pub clash_by : (ℕ → Option (List ℕ)) → List Row → ℕ → Option (List ℕ)
clash_by bring rows at = clash_in bring rows at (holder_of rows at)

-- ---- what rows claim

-- row k stands in row h, choices and cases left aside
unfoldable pub is_held : List Row → ℕ → ℕ → Bool
is_held rows h k = same_parent (holder_of rows k) (Some h)

-- what the names that a row claims rest on, by its keyword
abbrev pub claiming_in : List Row → List (Option ℕ) → ℕ → Option Row → List ℕ
claiming_in rows groupings i None = []
claiming_in rows groupings i (Some r) =
    if is_node r.word then [] else (
    if is_uses r.word then option_to_list (grouping_at groupings i) else filter (is_held rows i) (range_with_len 0 (length rows)))

-- what the names that row i claims rest on: a uses on its grouping, a grouping on all that stands in it, and a node or a choice, which claims its own, on
-- nothing (this project's own)
unfoldable pub claiming : List Row → List (Option ℕ) → ℕ → List ℕ
claiming rows groupings i = claiming_in rows groupings i (slice_get rows i)

-- the rows whose names a row claims, from what the rows that it rests on claim: its own, or all of theirs, no more than there are rows
abbrev pub claim : List Row → List (Option ℕ) → ℕ → Option Row → List (List ℕ) → Option (List ℕ)
claim rows groupings i None known = None
claim rows groupings i (Some r) known =
    if is_node r.word then Some (i ∷ []) else (
    if is_astray groupings i r then None else gathered (length rows) (Some known))

-- the rows whose names row i claims, once it is known what the rows that it rests on claim
unfoldable pub claim_step : List Row → List (Option ℕ) → ℕ → List (List ℕ) → Option (List ℕ)
claim_step rows groupings i known = claim rows groupings i (slice_get rows i) known

-- the rows whose names row i claims where it stands: a node of data and a choice its own, whatever stands in it, a case none, and a uses those of all
-- nodes and choices that stand in its grouping, also in choices there (RFC 7950 sections 6.2.1, 7.9 and 7.13); none where a uses that this rests on has no
-- grouping or leads to itself
unfoldable pub claimed : List Row → List (Option ℕ) → ℕ → Option (List ℕ)
claimed rows groupings i = worth_of (claim_step rows groupings) (claiming rows groupings) (length rows) i

-- ---- cases

-- a case, or what is a case of its own in a choice (RFC 7950 section 7.9.2)
abbrev pub is_branch : Word → Bool
is_branch word.Case = true
is_branch w = is_node w

-- a row, where it is a choice
abbrev pub choice_at : List Row → Option ℕ → Option ℕ
choice_at rows None = None
choice_at rows (Some p) = if has_word word.Choice (slice_get rows p) then Some p else None

-- the choice that a row is a case of
abbrev pub choice_in : List Row → Option Row → Option ℕ
choice_in rows None = None
choice_in rows (Some r) = if is_branch r.word then choice_at rows r.parent else None

-- the choice that row i is a case of
unfoldable pub choice_of : List Row → ℕ → Option ℕ
choice_of rows i = choice_in rows (slice_get rows i)

-- a row below `at` is a case of choice c and has the name
unfoldable pub is_case_taken : List Row → ℕ → ℕ → List ℕ → Bool
is_case_taken rows c zero name = false
is_case_taken rows c (suc k) name = (same_parent (choice_of rows k) (Some c) && bytes_eq name (argument_at rows k)) || is_case_taken rows c k name

-- the name of case `at`, where an earlier case of choice c has it
abbrev pub case_clash_in : List Row → ℕ → Option ℕ → Option (List ℕ)
case_clash_in rows at None = None
case_clash_in rows at (Some c) = if is_case_taken rows c at (argument_at rows at) then Some (argument_at rows at) else None

-- the name of case `at`, where an earlier case of its choice has it: the names of cases count in their choice alone (RFC 7950 section 7.9.2)
unfoldable pub case_clash : List Row → ℕ → Option (List ℕ)
case_clash rows at = case_clash_in rows at (choice_of rows at)

-- the case clash of each row
abbrev pub AreCaseClashes : List Row → List (Option (List ℕ)) → Type 0
AreCaseClashes rows clashes = AreWorth (case_clash rows) (length rows) clashes

-- the flaw that a name comes twice
abbrev pub duplicate : Option (List ℕ) → Option Flaw
duplicate None = None
duplicate (Some name) = Some (flaw.Duplicate name)

-- a node, a choice or a uses claims a name where it stands that an earlier one claims there already, or a case has that of an earlier one of its choice
-- (RFC 7950 sections 6.2.1, 7.9 and 7.13)
unfoldable pub clash_flaw : List Row → List (Option ℕ) → ℕ → Option Flaw
clash_flaw rows groupings at = duplicate (option_or (clash_by (claimed rows groupings) rows at) (case_clash rows at))

-- what is known to be brought
unfoldable pub known_at : List (Option (List ℕ)) → ℕ → Option (List ℕ)
known_at values i = slice_index_or values i None

-- the clash of each row
abbrev pub AreClashes : (ℕ → Option (List ℕ)) → List Row → List (Option (List ℕ)) → Type 0
AreClashes bring rows clashes = AreWorth (clash_by bring rows) (length rows) clashes

-- the names that the cases below n have in each choice (this project's own)
pub record AreCasesTaken (rows : List Row) (n : ℕ) (taken : List (List (List ℕ))) : Type 0 where
  pub size : length taken ≡ length rows
  pub each : (c : ℕ) (name : List ℕ) → c < length rows → has_name (get_or taken c []) name ≡ is_case_taken rows c n name

-- ---- how clashes are found (this project's own)

-- what each of the first n rows stands in, choices and cases left aside
abbrev pub AreHolders : List Row → ℕ → List (Option ℕ) → Type 0
AreHolders rows n holders = AreWorth (holder_of rows) n holders

-- a row claims the names of what stands in it: it is neither a node nor a `uses`
abbrev pub gathers_in : Option Row → Bool
gathers_in None = false
gathers_in (Some r) = not (is_node r.word || is_uses r.word)

-- row i claims what stands in it
unfoldable pub gathers : List Row → ℕ → Bool
gathers rows i = gathers_in (slice_get rows i)

-- what the names that row i claims rest on, as far as it was found among the first n rows
abbrev pub claiming_to : List Row → List (Option ℕ) → ℕ → ℕ → List ℕ
claiming_to rows groupings n i =
    if gathers rows i then filter (is_held rows i) (range_with_len 0 n) else claiming rows groupings i

-- what the names that each row claims rest on, as far as it is a row below n or a grouping
pub record AreClaiming (rows : List Row) (groupings : List (Option ℕ)) (n : ℕ) (graph : Graph) : Type 0 where
  pub size : length graph ≡ length rows
  pub each : (i : ℕ) → i < length rows → successors_of graph i ≡ claiming_to rows groupings n i

-- row `at` is put to what it stands in, if that claims what stands in it, and all others keep theirs
abbrev pub PutsClaim : List Row → Option ℕ → ℕ → Graph → Graph → Type 0
PutsClaim rows holder at before after =
    (length after ≡ length before)
    × ((i : ℕ) → successors_of after i ≡ (if gathers rows i && same_parent holder (Some i) then successors_of before i ++ at ∷ [] else successors_of before i))

-- rows, and what is known to be brought by each
pub record Knowledge : Type 0 where
  pub rows : List Row
  pub brought : List (Option (List ℕ))

-- rows with what is known to be brought by each
abbrev pub knowledge : List Row → List (Option (List ℕ)) → Knowledge
knowledge rows brought = record { rows = rows; brought = brought }

-- the rows that row i brings
abbrev pub nodes_at : Knowledge → ℕ → List ℕ
nodes_at k i = unwrap_or (known_at k.brought i) []

-- the names that row i brings
unfoldable pub names_at : Knowledge → ℕ → List (List ℕ)
names_at k i = names_from k.rows (known_at k.brought i)

-- row i brings the name
unfoldable pub brought_by : Knowledge → ℕ → List ℕ → Bool
brought_by k i name = has_name (names_at k i) name

-- the same, by the name
unfoldable pub brings : Knowledge → List ℕ → ℕ → Bool
brings k name i = brought_by k i name

-- the sets that are kept are of the names that their rows bring (this project's own)
abbrev pub AreSetsOfNames : Knowledge → List (Option (List (List ℕ))) → Type 0
AreSetsOfNames k sets = (i : ℕ) (names : List (List ℕ)) → slice_index_or sets i None ≡ Some names → (name : List ℕ) → has_name names name ≡ brought_by k i name

-- what is brought to a row: names, and all that some rows bring (this project's own)
pub record Parts : Type 0 where
  pub names : List (List ℕ)
  pub wide : List ℕ

-- names with the rows that bring further ones
abbrev pub parts : List (List ℕ) → List ℕ → Parts
parts names wide = record { names = names; wide = wide }

-- nothing is brought
abbrev pub no_parts : Parts
no_parts = parts [] []

-- the name is brought to a row
unfoldable pub has_part : Knowledge → Parts → List ℕ → Bool
has_part k p name = has_name p.names name || list_any (brings k name) p.wide

-- what row i brings is brought too, and all that was
abbrev pub TakesAlso : Knowledge → ℕ → Parts → Parts → Type 0
TakesAlso k i before after = (name : List ℕ) → has_part k after name ≡ (brought_by k i name || has_part k before name)

-- no name passes both tests
abbrev pub AreApart : (List ℕ → Bool) → (List ℕ → Bool) → Type 0
AreApart p q = (name : List ℕ) → (p name && q name) ≡ false

-- the names that the rows below n bring to each row
pub record AreTaken (k : Knowledge) (n : ℕ) (taken : List Parts) : Type 0 where
  pub size : length taken ≡ length k.rows
  pub each : (h : ℕ) (name : List ℕ) → h < length k.rows → has_part k (get_or taken h no_parts) name ≡ is_taken (known_at k.brought) k.rows h n name
