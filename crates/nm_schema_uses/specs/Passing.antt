-- The nodes that rows bring along some of what they lead to (RFC 7950 sections 7.9, 7.13 and 7.21.1).
use Rattle.std.specs.Prelude.{ℕ, List, length, map, filter, Bool, not, Option}
use Rattle.nm_schema_statements.specs.declared.row.Row.{Row}
use Rattle.nm_graph.specs.Value.{all_there}
use Rattle.nm_schema_uses.specs.Holding.{is_fork_at, holding, bringing}
use Rattle.nm_schema_uses.specs.Config.{kept_of, configuring}
use Rattle.nm_schema_uses.specs.Members.{gathered, bring_step}
use Rattle.nm_schema_uses.specs.Worth.{worth_of, AreWorth}

-- row i is neither a choice nor a case
unfoldable pub is_plain : List Row → ℕ → Bool
is_plain rows i = not (is_fork_at rows i)

-- what rows lead to, but for choices and cases
unfoldable pub plain_of : (ℕ → List ℕ) → List Row → ℕ → List ℕ
plain_of next rows i = filter (is_plain rows) (next i)

-- the nodes that row i brings along what `next` says
unfoldable pub brought_along : List Row → List (Option ℕ) → (ℕ → List ℕ) → ℕ → Option (List ℕ)
brought_along rows groupings next i = worth_of (bring_step rows groupings) next (length rows) i

-- those that some rows bring, in order
abbrev pub gathered_along : List Row → List (Option ℕ) → (ℕ → List ℕ) → List ℕ → Option (List ℕ)
gathered_along rows groupings next is = gathered (length rows) (all_there (map (brought_along rows groupings next) is))

-- the members of row i that are no state themselves and stand in no choice that is: a choice that has `config false` is left out with all that is in it
-- (RFC 7950 sections 7.9.2, 7.13 and 7.21.1)
unfoldable pub kept_members : List Row → List (Option ℕ) → ℕ → Option (List ℕ)
kept_members rows groupings i = gathered_along rows groupings (kept_of (bringing rows groupings) rows) (configuring rows groupings i)

-- the members of row i that stand in no choice (RFC 7950 sections 7.8.2 and 7.13)
unfoldable pub plain_members : List Row → List (Option ℕ) → ℕ → Option (List ℕ)
plain_members rows groupings i = gathered_along rows groupings (plain_of (bringing rows groupings) rows) (plain_of (holding rows groupings) rows i)

-- each row has the nodes that it brings, but for state
abbrev pub AreWithoutState : List Row → List (Option ℕ) → List (Option (List ℕ)) → Type 0
AreWithoutState rows groupings values = AreWorth (brought_along rows groupings (kept_of (bringing rows groupings) rows)) (length rows) values

-- each row has the nodes that it brings, but for those in choices
abbrev pub ArePlain : List Row → List (Option ℕ) → List (Option (List ℕ)) → Type 0
ArePlain rows groupings values = AreWorth (brought_along rows groupings (plain_of (bringing rows groupings) rows)) (length rows) values
