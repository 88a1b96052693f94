-- The paths at which a node may stand, from the top of the schema down to it.
use Rattle.std.specs.Prelude.{ℕ, zero, suc, List, [], ◌∷◌, ◌++◌, map, Option, Some, None, filter, slice_get, if◌then◌else◌}
use Rattle.std.specs.List.{fold}
use Rattle.std.specs.FinMap.{keys}
use Rattle.nm_types.specs.Path.{PathStep, whole}
use Rattle.nm_schema_tree.specs.declared.node.Node.{Node}
use Rattle.nm_schema_tree.specs.declared.choice.ChoiceNode.{ChoiceNode}
use Rattle.nm_schema_tree.specs.Nodes.{SchemaTree, parent_of, case_at, is_guard_at}
use Rattle.nm_config.specs.Rows.{Rows}
use Rattle.nm_validate_rules.specs.Cases.{bare, is_allowed}
use Rattle.nm_validate_rules.specs.Guards.{leads_to}

-- n nodes at most, from the top down to a node
abbrev pub chain_of : List Node → ℕ → Option ℕ → List ℕ
chain_of nodes n None = []
chain_of nodes zero (Some x) = []
chain_of nodes (suc n) (Some x) = chain_of nodes n (parent_of nodes x) ++ x ∷ []

-- the nodes from the top down to a node; each stands in an earlier one, so node x has at most x above it
abbrev pub chain : List Node → Option ℕ → List ℕ
chain nodes None = []
chain nodes (Some x) = chain_of nodes (suc x) (Some x)

-- the paths of node x at these places, those where its case holds
abbrev pub placed : SchemaTree → Rows → List (List PathStep) → ℕ → List (List PathStep)
placed t rows areas x = map (λ above. above ++ bare t.nodes x ∷ []) (filter (λ above. is_allowed t rows above (case_at t.nodes x)) areas)

-- the places directly below node x: its rows where it is a list or a container with presence, its paths at the places above
-- it where it is a container without presence
abbrev pub areas_below : SchemaTree → Rows → List (List PathStep) → ℕ → List (List PathStep)
areas_below t rows areas x = if is_guard_at t.nodes x then filter (leads_to t x) (keys rows) else placed t rows areas x

-- the places directly below a node, and directly at the top
abbrev pub areas : SchemaTree → Rows → Option ℕ → List (List PathStep)
areas t rows parent = fold (areas_below t rows) ([] ∷ []) (chain t.nodes parent)

-- the places of node x: where it may stand
unfoldable pub places : SchemaTree → Rows → ℕ → List (List PathStep)
places t rows x = placed t rows (areas t rows (parent_of t.nodes x)) x

-- ---- choices

-- the step by which a choice is printed
abbrev pub choice_step : ChoiceNode → PathStep
choice_step k = record { «module» = k.«module»; name = k.name; chosen = whole }

-- the paths of a choice: at each place of its parent where the case that it is nested in holds
abbrev pub choice_places_of : SchemaTree → Rows → Option ChoiceNode → List (List PathStep)
choice_places_of t rows None = []
choice_places_of t rows (Some k) = map (λ above. above ++ choice_step k ∷ []) (filter (λ above. is_allowed t rows above k.case_in) (areas t rows k.parent))

-- the places of choice k: where its guard holds
unfoldable pub choice_places : SchemaTree → Rows → ℕ → List (List PathStep)
choice_places t rows k = choice_places_of t rows (slice_get t.choices k)
