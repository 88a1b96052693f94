-- The ways down to the leafs of a unique statement.
use Rattle.std.specs.Prelude.{◌≡◌, List, [], ◌∷◌, Some, ⊤}
use Rattle.nm_schema_tree.specs.Nodes.{SchemaTree}
use Rattle.nm_validate_rules.specs.Places.{chain}
use Rattle.nm_validate_unique.specs.declared.ways.Way.{Way}

-- these have the nodes from the top down to their leafs
abbrev pub AreWays : SchemaTree → List Way → Type 0
AreWays t [] = ⊤
AreWays t (way ∷ ways) = (way.nodes.items ≡ chain t.nodes (Some way.leaf)) × AreWays t ways
