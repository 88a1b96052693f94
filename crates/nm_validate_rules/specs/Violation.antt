-- The violation that is told of a configuration: the least by rule, then by path (this project's own).
use Rattle.std.specs.Prelude.{◌≡◌, ◌⊎◌, suc, ◌<◌, List, [], ◌∷◌, take, length, map, true, false, Option, Some, None, filter, if◌then◌else◌}
use Rattle.std.specs.List.{fold, flat_map, range_with_len}
use Rattle.std.specs.Ordering.{is_gt, is_lt}
use Rattle.std.specs.FinMap.{keys}
use Rattle.nm_types.specs.Path.{PathStep, path_cmp}
use Rattle.nm_schema_tree.specs.Nodes.{SchemaTree}
use Rattle.nm_config.specs.Rows.{Rows}
use Rattle.nm_validate_rules.specs.declared.rule.Rule.{Rule}
use Rattle.nm_validate_rules.specs.declared.rule.Rule.TheVariants.{ValueType, Key, Mandatory, Leafref, Unique, MinElements, MaxElements, MandatoryChoice, OneCase}
use Rattle.nm_validate_rules.specs.Cases.{numbers}
use Rattle.nm_validate_rules.specs.Places.{places, choice_places}
use Rattle.nm_validate_rules.specs.Rule.{all_rules, rule_number}
use Rattle.nm_validate_rules.specs.Violated.{violated}

-- a rule that is violated, and where
pub record Violation : Type 0 where
  pub rule : Rule
  pub path : List PathStep

-- a violation doesn't stand behind a rule and a path
abbrev pub IsUpto : Violation → Rule → List PathStep → Type 0
IsUpto v rule path = (rule_number v.rule < rule_number rule) ⊎ ((v.rule ≡ rule) × (is_gt (path_cmp v.path path) ≡ false))

-- a rule is violated, and whatever is violated elsewhere stands behind
pub record IsLeastViolation (t : SchemaTree) (rows : Rows) (v : Violation) : Type 0 where
  pub violated_there : violated t rows v.rule v.path ≡ true
  pub least : (rule : Rule) (path : List PathStep) → violated t rows rule path ≡ true → IsUpto v rule path

-- a configuration is valid: no rule is violated anywhere (RFC 7950 section 8)
abbrev pub IsValid : SchemaTree → Rows → Type 0
IsValid t rows = (rule : Rule) (path : List PathStep) → violated t rows rule path ≡ false

-- what is told: the least violation, and none of a configuration that is valid
abbrev pub IsTold : SchemaTree → Rows → Option Violation → Type 0
IsTold t rows None = IsValid t rows
IsTold t rows (Some v) = IsLeastViolation t rows v

-- ---- the violation as a function

-- the paths that rows begin with
abbrev pub fronts : Rows → List (List PathStep)
fronts rows = flat_map (λ path. map (λ n. take (suc n) path) (range_with_len 0 (length path))) (keys rows)

-- the paths at which a rule may be violated: rows, places of nodes or of choices, and children
abbrev pub looked_at : SchemaTree → Rows → Rule → List (List PathStep)
looked_at t rows ValueType = keys rows
looked_at t rows Key = keys rows
looked_at t rows Mandatory = flat_map (places t rows) (numbers t.nodes)
looked_at t rows Leafref = keys rows
looked_at t rows Unique = keys rows
looked_at t rows MinElements = flat_map (places t rows) (numbers t.nodes)
looked_at t rows MaxElements = flat_map (places t rows) (numbers t.nodes)
looked_at t rows MandatoryChoice = flat_map (choice_places t rows) (range_with_len 0 (length t.choices))
looked_at t rows OneCase = fronts rows

-- the lesser of two paths, in their order
abbrev pub lesser : List PathStep → List PathStep → List PathStep
lesser one other = if is_lt (path_cmp other one) then other else one

-- the least of some paths
abbrev pub least_of : List (List PathStep) → Option (List PathStep)
least_of [] = None
least_of (path ∷ paths) = Some (fold lesser path paths)

-- the least path at which a rule is violated
unfoldable pub least_at : SchemaTree → Rows → Rule → Option (List PathStep)
least_at t rows rule = least_of (filter (violated t rows rule) (looked_at t rows rule))

-- a violation of a rule where it has a path, and else one of a later rule
abbrev pub told : Rule → Option (List PathStep) → Option Violation → Option Violation
told rule None otherwise = otherwise
told rule (Some path) otherwise = Some (record { rule = rule; path = path })

-- the violation of the first rule that has one
abbrev pub first_told : SchemaTree → Rows → List Rule → Option Violation
first_told t rows [] = None
first_told t rows (rule ∷ others) = told rule (least_at t rows rule) (first_told t rows others)

-- the violation of a configuration: of the first rule that is violated, at the least path
unfoldable pub violation : SchemaTree → Rows → Option Violation
violation t rows = first_told t rows all_rules
