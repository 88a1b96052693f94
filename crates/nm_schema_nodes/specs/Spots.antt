-- The nodes that choices and cases speak of.
use Rattle.std.specs.Prelude.{◌≡◌, ℕ, List, length, Option, Some}
use Rattle.nm_schema_statements.specs.declared.row.Row.{Row}
use Rattle.nm_schema_uses.specs.Passing.{kept_members}
use Rattle.nm_schema_nodes.specs.Forks.{Forking}
use Rattle.nm_schema_nodes.specs.Choices.{forks_of}

-- each kept member of row i has its place among those whose cases are known
abbrev pub HaveSpots : List Row → List (Option ℕ) → ℕ → Type 0
HaveSpots rows groupings i = (forks : Forking) (nodes : List ℕ) → forks_of rows groupings i ≡ Some forks
    → kept_members rows groupings i ≡ Some nodes → length forks.spots ≡ length nodes
