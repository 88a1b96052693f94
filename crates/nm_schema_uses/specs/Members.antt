-- The nodes that rows bring to where they stand, and those that stand in them (RFC 7950 section 7.13).
use Rattle.std.specs.Prelude.{ℕ, List, [], ◌∷◌, length, map, Bool, not, ◌&&◌, nat_le, Option, Some, None, is_some, if◌then◌else◌, slice_get}
use Rattle.std.specs.List.{concat}
use Rattle.nm_schema_statements.specs.declared.row.Row.{Row}
use Rattle.nm_schema_statements.specs.Flaw.{is_data}
use Rattle.nm_graph.specs.Value.{all_there}
use Rattle.nm_schema_uses.specs.Holding.{is_uses, grouping_at, holding, bringing}
use Rattle.nm_schema_uses.specs.Worth.{worth_of}

-- a list of at most so many
abbrev pub limited : ℕ → List ℕ → Option (List ℕ)
limited limit nodes = if nat_le (length nodes) limit then Some nodes else None

-- all of these, in order, at most so many
abbrev pub gathered : ℕ → Option (List (List ℕ)) → Option (List ℕ)
gathered limit None = None
gathered limit (Some known) = limited limit (concat known)

-- a uses whose grouping isn't there
abbrev pub is_astray : List (Option ℕ) → ℕ → Row → Bool
is_astray groupings i r = is_uses r.word && not (is_some (grouping_at groupings i))

-- what a row brings, from what the rows that it leads to bring: a node itself, and a uses and a grouping what these bring. No more are taken than
-- there are rows: where there would be more, some row would be brought twice (this project's own)
abbrev pub bring : List Row → List (Option ℕ) → ℕ → Option Row → List (List ℕ) → Option (List ℕ)
bring rows groupings i None known = None
bring rows groupings i (Some r) known =
    if is_data r.word then Some (i ∷ []) else (
    if is_astray groupings i r then None else gathered (length rows) (Some known))

-- what row i brings, once it is known what the rows that it leads to bring
unfoldable pub bring_step : List Row → List (Option ℕ) → ℕ → List (List ℕ) → Option (List ℕ)
bring_step rows groupings i known = bring rows groupings i (slice_get rows i) known

-- the nodes that row i brings to the statement that it stands in, in order: a node of data always itself, whatever stands in it, and a uses, a grouping,
-- a module, a choice and a case what stands in them; none where a uses that this rests on has no grouping or leads to itself
unfoldable pub brought : List Row → List (Option ℕ) → ℕ → Option (List ℕ)
brought rows groupings i = worth_of (bring_step rows groupings) (bringing rows groupings) (length rows) i

-- the nodes of data that stand directly in row i once each uses stands for what its grouping holds, and each choice and case for what it holds, in order
-- (RFC 7950 sections 7.9 and 7.13); none where a uses directly in it, or in the groupings that these use, has no grouping or leads to itself, and none of
-- this for a uses that stands in a node below it
unfoldable pub members : List Row → List (Option ℕ) → ℕ → Option (List ℕ)
members rows groupings i = gathered (length rows) (all_there (map (brought rows groupings) (holding rows groupings i)))
