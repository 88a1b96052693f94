-- The candidates of rules, by the fronts of a row.
use Rattle.std.specs.Prelude.{ℕ, List, [], ◌∷◌, ◌++◌, length, map, Bool, false, Option, Some, None, is_some, filter, slice_get, if◌then◌else◌}
use Rattle.std.specs.List.{flat_map, range_with_len}
use Rattle.nm_types.specs.Path.{PathStep}
use Rattle.nm_schema_tree.specs.declared.choice.ChoiceNode.{ChoiceNode}
use Rattle.nm_schema_tree.specs.Nodes.{SchemaTree, is_mandatory_at, elements_at}
use Rattle.nm_validate_rules.specs.declared.rule.Rule.{Rule}
use Rattle.nm_validate_rules.specs.declared.rule.Rule.TheVariants.{Mandatory, MinElements, MaxElements}
use Rattle.nm_validate_rules.specs.Places.{choice_step}
use Rattle.nm_validate_rules.specs.Values.{path_in}
use Rattle.nm_validate_rules.specs.Candidates.{is_above, choices_below_fronts, is_mandatory_choice}

-- a rule on single nodes is said of node x
abbrev pub has_rule : SchemaTree → Rule → ℕ → Bool
has_rule t Mandatory x = is_mandatory_at t.nodes x
has_rule t MinElements x = is_some (elements_at t.nodes x).min
has_rule t MaxElements x = is_some (elements_at t.nodes x).max
has_rule t _ x = false

-- the places directly below what a choice stands in, below these paths
abbrev pub areas_of : SchemaTree → List (List PathStep) → Option ℕ → List (List PathStep)
areas_of t fronts None = [] ∷ []
areas_of t fronts (Some x) = map (λ above. path_in t above x) (filter (is_above t x) fronts)

-- the paths of a choice there, if it is mandatory
abbrev pub mandatory_at : SchemaTree → List (List PathStep) → Option ChoiceNode → List (List PathStep)
mandatory_at t fronts None = []
mandatory_at t fronts (Some k) = if k.mandatory then map (λ above. above ++ choice_step k ∷ []) (areas_of t fronts k.parent) else []

-- the candidates of the rule of mandatory choices
abbrev pub choices_of : SchemaTree → List PathStep → List (List PathStep)
choices_of t row =
    flat_map (λ k. choices_below_fronts t row (slice_get t.choices k))
    (filter (λ k. is_mandatory_choice (slice_get t.choices k)) (range_with_len 0 (length t.choices)))
