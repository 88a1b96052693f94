-- Where what has to be there is wanted: below guards that hold. A guard is the closest ancestor, cases counted, other than a
-- container without presence (RFC 7950 sections 7.6.1, 7.6.5 and 7.7.5).
use Rattle.std.specs.Prelude.{ℕ, List, [], ◌∷◌, ◌++◌, Bool, true, false, ◌&&◌, ◌==◌, Option, Some, None, if◌then◌else◌}
use Rattle.std.specs.FinMap.{contains_key}
use Rattle.nm_types.specs.Path.{PathStep}
use Rattle.nm_schema_tree.specs.Nodes.{SchemaTree, case_at}
use Rattle.nm_path.specs.Spelling.{node_of}
use Rattle.nm_config.specs.Rows.{Rows}
use Rattle.nm_config.specs.Under.{is_whole}
use Rattle.nm_validate_rules.specs.Standing.{is_own_at}
use Rattle.nm_validate_rules.specs.Cases.{is_allowed}

-- the case that a node stands in, if there is one, holds at a place
abbrev pub is_allowed_at : SchemaTree → Rows → List PathStep → Option ℕ → Bool
is_allowed_at t rows above None = false
is_allowed_at t rows above (Some x) = is_allowed t rows above (case_at t.nodes x)

-- a step without predicates leads to a node whose case holds
abbrev pub is_open_step : SchemaTree → Rows → List PathStep → PathStep → Bool
is_open_step t rows above s = is_whole s.chosen && is_allowed_at t rows above (node_of t (above ++ s ∷ []))

-- what guards the nodes below a step holds, by whether what guards the place of the step does: a list entry and a container
-- with presence guard by themselves, a container without presence and its case only hand on
abbrev pub holds_below : SchemaTree → Rows → Bool → List PathStep → PathStep → Bool
holds_below t rows holds above s =
    if is_own_at t.nodes (node_of t (above ++ s ∷ [])) then contains_key rows (above ++ s ∷ []) else (holds && is_open_step t rows above s)

-- the guard that holds or doesn't above some steps, carried down the steps that follow
abbrev pub holds_from : SchemaTree → Rows → Bool → List PathStep → List PathStep → Bool
holds_from t rows holds above [] = holds
holds_from t rows holds above (s ∷ ss) = holds_from t rows (holds_below t rows holds above s) (above ++ s ∷ []) ss

-- what guards the nodes at a place that stand in no case holds; a missing guard holds
abbrev pub holds_at : SchemaTree → Rows → List PathStep → Bool
holds_at t rows above = holds_from t rows true [] above

-- the path without its last step
abbrev pub front : List PathStep → List PathStep
front [] = []
front (s ∷ []) = []
front (s ∷ r ∷ ss) = s ∷ front (r ∷ ss)

-- the same for whether the last of the steps may stand there
abbrev pub stands_from : SchemaTree → Rows → Bool → List PathStep → List PathStep → Bool
stands_from t rows holds above [] = false
stands_from t rows holds above (s ∷ []) = holds && is_open_step t rows above s
stands_from t rows holds above (s ∷ r ∷ ss) = stands_from t rows (holds_below t rows holds above s) (above ++ s ∷ []) (r ∷ ss)

-- a leaf, or a list or leaf-list as a whole, may stand at a path: its guard holds
abbrev pub stands : SchemaTree → Rows → List PathStep → Bool
stands t rows path = stands_from t rows true [] path

-- it is node x
abbrev pub is_node : ℕ → Option ℕ → Bool
is_node x None = false
is_node x (Some y) = y == x

-- a path leads to node x
abbrev pub leads_to : SchemaTree → ℕ → List PathStep → Bool
leads_to t x path = is_node x (node_of t path)
