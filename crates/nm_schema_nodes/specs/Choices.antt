-- The choices and cases of configuration in rows, through `uses` (RFC 7950 sections 7.9, 7.13 and 7.21.1).
use Rattle.std.specs.Prelude.{◌≡◌, ℕ, List, length, map, Bool, Option, Some, None, option_and_then, if◌then◌else◌, slice_get}
use Rattle.nm_schema_statements.specs.declared.word.Word.TheVariants as word
use Rattle.nm_schema_statements.specs.declared.row.Row.{Row}
use Rattle.nm_schema_statements.specs.Word.{same_word}
use Rattle.nm_schema_statements.specs.Flaw.{is_data}
use Rattle.nm_graph.specs.Value.{all_there}
use Rattle.nm_schema_uses.specs.Holding.{bringing}
use Rattle.nm_schema_uses.specs.Config.{kept_of, configuring}
use Rattle.nm_schema_uses.specs.Members.{is_astray}
use Rattle.nm_schema_uses.specs.Worth.{worth_of, AreWorth}
use Rattle.nm_schema_nodes.specs.Forks.{Forking, lone_node, choice_with, limited, all_joined}

-- the nodes that row i brings, kept ones alone, with the choices that they come through
abbrev pub fork_in : List Row → List (Option ℕ) → ℕ → Option Row → List Forking → Option Forking
fork_in rows groupings i None known = None
fork_in rows groupings i (Some r) known =
    if is_data r.word then Some lone_node else (
    if same_word r.word word.Choice then limited (length rows) (choice_with i (kept_of (bringing rows groupings) rows i) known) else (
    if is_astray groupings i r then None else limited (length rows) (all_joined known)))

-- what row i brings with choices and cases, once it is known what the rows that it rests on bring
unfoldable pub fork_step : List Row → List (Option ℕ) → ℕ → List Forking → Option Forking
fork_step rows groupings i known = fork_in rows groupings i (slice_get rows i) known

-- the kept nodes that row i brings to where it stands, with the choices of configuration that they come through: a choice brings itself and what stands
-- in it; none where a uses that this rests on has no grouping or leads to itself, or something is brought twice (this project's own)
unfoldable pub forked : List Row → List (Option ℕ) → ℕ → Option Forking
forked rows groupings i = worth_of (fork_step rows groupings) (kept_of (bringing rows groupings) rows) (length rows) i

-- what several rows bring, one after another, where each is known and a limit is kept
abbrev pub joined_all : ℕ → List (Option Forking) → Option Forking
joined_all limit known = option_and_then (λ fs. limited limit (all_joined fs)) (all_there known)

-- what a choice brings, with a case for each of its rows, where each is known and a limit is kept
abbrev pub choice_all : ℕ → ℕ → List ℕ → List (Option Forking) → Option Forking
choice_all limit row rows known = option_and_then (λ fs. limited limit (choice_with row rows fs)) (all_there known)

-- the choices of configuration that stand in row i, choices and cases around them left aside, and for each kept member of it, in order, the innermost case
-- that it stands in (RFC 7950 sections 7.9, 7.13 and 7.21.1)
unfoldable pub forks_of : List Row → List (Option ℕ) → ℕ → Option Forking
forks_of rows groupings i = joined_all (length rows) (map (forked rows groupings) (configuring rows groupings i))

-- what each row brings
pub record AreForked (rows : List Row) (groupings : List (Option ℕ)) (values : List (Option Forking)) : Type 0 where
  pub worth : AreWorth (forked rows groupings) (length rows) values
