-- The nodes of cases.
use Rattle.std.specs.Prelude.{◌≡◌, ℕ, List, Bool, true, not, ◌&&◌, ◌==◌, Option, Some, None, filter, Vec, ⊤}
use Rattle.std.specs.List.{list_any}
use Rattle.std.specs.declared.alloc.Global.{Global}
use Rattle.nm_types.specs.Path.{PathStep}
use Rattle.nm_schema_tree.specs.Nodes.{SchemaTree}
use Rattle.nm_config.specs.Rows.{Rows}
use Rattle.nm_validate_rules.specs.Cases.{numbers, is_in_case, exists_at}

-- one of these nodes exists at a place, or nothing is asked
abbrev pub is_allowed_by : SchemaTree → Rows → List PathStep → Option (Vec ℕ Global) → Bool
is_allowed_by t rows above None = true
is_allowed_by t rows above (Some members) = list_any (exists_at t rows above) members.items

-- the other nodes of the case that node x stands in, and none of no case
abbrev pub AreOthers : SchemaTree → ℕ → Option ℕ → Option (Vec ℕ Global) → Type 0
AreOthers t x None None = ⊤
AreOthers t x (Some c) (Some others) = others.items ≡ filter (λ y. not (y == x) && is_in_case t c y) (numbers t.nodes)
AreOthers t x _ _ = ⊥
