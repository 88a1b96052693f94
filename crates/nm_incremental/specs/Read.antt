-- The paths at which a rule reads some rows, as the keys of a configuration: each once, in path order (this project's own).
use Rattle.std.specs.Prelude.{ℕ, suc, Bool, List, [], ◌∷◌, map, filter, Option, None, if◌then◌else◌}
use Rattle.std.specs.List.{find, flat_map, list_any}
use Rattle.std.specs.FinMap.{empty, keys}
use Rattle.nm_types.specs.declared.value.Value.{Value}
use Rattle.nm_types.specs.declared.value.Value.TheVariants.{Present}
use Rattle.nm_types.specs.Path.{PathStep}
use Rattle.nm_schema_tree.specs.Nodes.{SchemaTree}
use Rattle.nm_config.specs.Rows.{Rows, with_entries}
use Rattle.nm_validate_rules.specs.declared.rule.Rule.{Rule}
use Rattle.nm_validate_rules.specs.Reads.{reads}
use Rattle.nm_validate_rules.specs.Violated.{violated}
use Rattle.nm_validate_rules.specs.Violation.{Violation, told}
use Rattle.nm_validate_rules.specs.Candidates.{candidates, has_candidates}
use Rattle.nm_incremental.specs.Whole.{is_concerned, least_if}

-- the candidates of a row at which the rule reads it
abbrev pub read_at : SchemaTree → Rule → List PathStep → List (List PathStep)
read_at t rule row = filter (λ path. reads t rule path row) (candidates t rule row)

-- a path as a key with a value that says nothing
abbrev pub present : List PathStep → List PathStep × Value
present path = (path, Present)

-- the paths at which a rule reads one of these rows
abbrev pub read_of : SchemaTree → Rule → List (List PathStep) → List (List PathStep)
read_of t rule differing = flat_map (read_at t rule) differing

-- as a set
abbrev pub read_set : SchemaTree → Rule → List (List PathStep) → Rows
read_set t rule differing = with_entries empty (map present (read_of t rule differing))

-- the constraints of a rule on single places that read a row that differs
abbrev pub judged_by : SchemaTree → List (List PathStep) → Rule → List Violation
judged_by t differing rule = if has_candidates rule then map (λ path. record { rule = rule; path = path }) (keys (read_set t rule differing)) else []

-- all of them
abbrev pub all_judged : SchemaTree → List (List PathStep) → List Rule → List Violation
all_judged t differing rules = flat_map (judged_by t differing) rules

-- where a rule is found to be violated: a rule on single places at the first path at which it reads a row that differs,
-- another one where such a row concerns it
abbrev pub least_found : SchemaTree → Rows → List (List PathStep) → Rule → Option (List PathStep)
least_found t rows differing rule =
    if has_candidates rule
    then find (violated t rows rule) (keys (read_set t rule differing))
    else least_if (list_any (is_concerned t rule) differing) t rows rule

-- the violation of the first of some rules that is found to be violated
abbrev pub first_found : SchemaTree → Rows → List (List PathStep) → List Rule → Option Violation
first_found t rows differing [] = None
first_found t rows differing (rule ∷ others) = told rule (least_found t rows differing rule) (first_found t rows differing others)

-- how many of some paths are looked at until one passes a test, that one counted
abbrev pub looked_at : (List PathStep → Bool) → List (List PathStep) → ℕ
looked_at test [] = 0
looked_at test (path ∷ paths) = suc (if test path then 0 else looked_at test paths)
