-- What stands in what.
use Rattle.std.specs.Prelude.{ℕ, List, length, Option}
use Rattle.nm_schema_statements.specs.declared.row.Row.{Row}
use Rattle.nm_graph.specs.Graph.{Graph, IsGraph}
use Rattle.nm_schema_uses.specs.Holding.{holding, IsHolding}
use Rattle.nm_schema_uses.specs.Worth.{AreWorth}
use Rattle.nm_schema_uses.specs.Members.{brought}
use Rattle.nm_schema_uses.specs.Passing.{AreWithoutState, ArePlain}
use Rattle.nm_schema_uses.specs.declared.settings.Settings.{Settings}
use Rattle.nm_schema_uses.specs.Settled.{AreSettings}

-- the rows of modules, and the grouping of each uses
pub record Outline : Type 0 where
  pub rows : List Row
  pub groupings : List (Option ℕ)

-- the rows of modules with the groupings of their uses
abbrev pub outline : List Row → List (Option ℕ) → Outline
outline rows groupings = record { rows = rows; groupings = groupings }

-- what is known of them: what each leads to; what each brings in all, but for state, and but for choices; and where each is set
pub record IsShape (rows : List Row) (groupings : List (Option ℕ)) (graph : Graph) (known kept plain : List (Option (List ℕ)))
    (settings : Settings) : Type 0 where
  pub leads : IsHolding rows groupings graph
  pub within : IsGraph graph
  pub bring : AreWorth (brought rows groupings) (length rows) known
  pub bring_kept : AreWithoutState rows groupings kept
  pub bring_plain : ArePlain rows groupings plain
  pub settled : AreSettings (holding rows groupings) rows settings
