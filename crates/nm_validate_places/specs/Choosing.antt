-- Mandatory choices without any node.
use Rattle.std.specs.Prelude.{ℕ, List, [], ◌∷◌, ◌++◌, length, Bool, true, not, ◌&&◌, Option, Some, None, filter, nat_lt, slice_get, if◌then◌else◌}
use Rattle.std.specs.List.{list_any}
use Rattle.nm_types.specs.Path.{PathStep}
use Rattle.nm_schema_tree.specs.declared.choice.ChoiceNode.{ChoiceNode}
use Rattle.nm_schema_tree.specs.Nodes.{SchemaTree}
use Rattle.nm_config.specs.Rows.{Rows}
use Rattle.nm_validate_rules.specs.Cases.{exists_at, is_allowed}
use Rattle.nm_validate_rules.specs.Places.{choice_step, choice_places}
use Rattle.nm_validate_rules.specs.Violated.{is_missing}

-- what a choice stands in is there: a node, or the top
abbrev pub is_within : SchemaTree → Option ℕ → Bool
is_within t None = true
is_within t (Some p) = nat_lt p (length t.nodes)

-- the path of a choice at a place, where the case holds there that it stands in, and none of these nodes exists
abbrev pub missing_by : SchemaTree → Rows → ChoiceNode → List ℕ → List PathStep → List (List PathStep)
missing_by t rows k nodes above =
    if is_allowed t rows above k.case_in && not (list_any (exists_at t rows above) nodes) then (above ++ choice_step k ∷ []) ∷ [] else []

-- the places of choice k at which it has no node though it has to have one (RFC 7950 section 7.9.4)
abbrev pub missing_places : SchemaTree → Rows → ℕ → List (List PathStep)
missing_places t rows k = filter (λ path. is_missing t rows path k (slice_get t.choices k)) (choice_places t rows k)
