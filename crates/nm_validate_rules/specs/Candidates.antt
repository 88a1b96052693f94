-- The paths at which a row may be read by the rules on values, keys, single nodes and missing choices: below the fronts of the row (this project's own).
use Rattle.std.specs.Prelude.{ℕ, suc, List, [], ◌∷◌, ◌++◌, take, length, map, Bool, true, false, Option, Some, None, is_some, filter, slice_get}
use Rattle.std.specs.List.{filter_map, flat_map, range_with_len}
use Rattle.nm_base.specs.Numbers.{is_among}
use Rattle.nm_types.specs.Path.{PathStep}
use Rattle.nm_schema_tree.specs.declared.choice.ChoiceNode.{ChoiceNode}
use Rattle.nm_schema_tree.specs.Nodes.{SchemaTree, is_mandatory_at, elements_at}
use Rattle.nm_path.specs.Spelling.{node_of}
use Rattle.nm_config.specs.Rows.{Rows}
use Rattle.nm_validate_rules.specs.declared.rule.Rule.{Rule}
use Rattle.nm_validate_rules.specs.declared.rule.Rule.TheVariants.{ValueType, Key, Mandatory, Leafref, Unique, MinElements, MaxElements, MandatoryChoice, OneCase}
use Rattle.nm_validate_rules.specs.Cases.{numbers}
use Rattle.nm_validate_rules.specs.Places.{chain, choice_step}
use Rattle.nm_validate_rules.specs.Values.{path_in}
use Rattle.nm_validate_rules.specs.Violated.{Child, children_of, first_other}

-- the paths that a path begins with, from the top to the path itself
abbrev pub fronts_of : List PathStep → List (List PathStep)
fronts_of path = map (λ n. take n path) (range_with_len 0 (suc (length path)))

-- node x is node z, or one that z stands in
abbrev pub is_on_way : SchemaTree → ℕ → Option ℕ → Bool
is_on_way t x None = false
is_on_way t x (Some z) = is_among z (chain t.nodes (Some x))

-- a path is that of the top, or leads to node x or to a node above it
abbrev pub is_above : SchemaTree → ℕ → List PathStep → Bool
is_above t x [] = true
is_above t x (s ∷ ss) = is_on_way t x (node_of t (s ∷ ss))

-- the paths of node x below the fronts of a row, by steps that choose no entries
abbrev pub below_fronts : SchemaTree → List PathStep → ℕ → List (List PathStep)
below_fronts t row x = map (λ above. path_in t above x) (filter (is_above t x) (fronts_of row))

-- the places directly below a node, or the top, among the fronts of a row and what follows them by steps that choose no entries
abbrev pub areas_below_fronts : SchemaTree → List PathStep → Option ℕ → List (List PathStep)
areas_below_fronts t row None = [] ∷ []
areas_below_fronts t row (Some x) = below_fronts t row x

-- the paths of a choice below the fronts of a row
abbrev pub choices_below_fronts : SchemaTree → List PathStep → Option ChoiceNode → List (List PathStep)
choices_below_fronts t row None = []
choices_below_fronts t row (Some k) = map (λ above. above ++ choice_step k ∷ []) (areas_below_fronts t row k.parent)

-- a choice is mandatory
abbrev pub is_mandatory_choice : Option ChoiceNode → Bool
is_mandatory_choice None = false
is_mandatory_choice (Some k) = k.mandatory

-- the paths at which a rule may read a row; of the rules on cases and of those on whole configurations none are given
abbrev pub candidates : SchemaTree → Rule → List PathStep → List (List PathStep)
candidates t ValueType row = row ∷ []
candidates t Key row = row ∷ []
candidates t Mandatory row = flat_map (below_fronts t row) (filter (is_mandatory_at t.nodes) (numbers t.nodes))
candidates t MinElements row = flat_map (below_fronts t row) (filter (λ x. is_some (elements_at t.nodes x).min) (numbers t.nodes))
candidates t MaxElements row = flat_map (below_fronts t row) (filter (λ x. is_some (elements_at t.nodes x).max) (numbers t.nodes))
candidates t MandatoryChoice row =
    flat_map (λ k. choices_below_fronts t row (slice_get t.choices k))
    (filter (λ k. is_mandatory_choice (slice_get t.choices k)) (range_with_len 0 (length t.choices)))
candidates t _ row = []

-- a rule reads a row nowhere but at its candidates
abbrev pub has_candidates : Rule → Bool
has_candidates OneCase = false
has_candidates Leafref = false
has_candidates Unique = false
has_candidates _ = true

-- ---- cases of one choice

-- the path of a child, where there is one
abbrev pub path_of_child : Option Child → Option (List PathStep)
path_of_child None = None
path_of_child (Some child) = Some child.path

-- for each choice and each place that a row is below, the first child of another case than the first, if there is one
abbrev pub other_children : SchemaTree → Rows → List PathStep → List (List PathStep)
other_children t rows row =
    flat_map (λ n. filter_map (λ k. path_of_child (first_other (children_of t rows k (take n row)))) (range_with_len 0 (length t.choices)))
    (range_with_len 0 (length row))
