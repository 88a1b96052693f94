-- Rules that are judged whole, where a row that differs concerns them.
use Rattle.std.specs.Prelude.{ℕ, suc, List, take, length, Bool, false, Option, Some, None, is_some, if◌then◌else◌}
use Rattle.std.specs.List.{list_any, range_with_len}
use Rattle.nm_types.specs.Path.{PathStep}
use Rattle.nm_schema_tree.specs.Nodes.{SchemaTree, case_at}
use Rattle.nm_path.specs.Spelling.{node_of}
use Rattle.nm_config.specs.Rows.{Rows}
use Rattle.nm_validate_rules.specs.declared.rule.Rule.{Rule}
use Rattle.nm_validate_rules.specs.declared.rule.Rule.TheVariants.{Leafref, Unique, OneCase}
use Rattle.nm_validate_rules.specs.Violation.{least_at}
use Rattle.nm_validate_rules.specs.Concerns.{concerns}

-- a node stands in a case, if there is one
abbrev pub is_cased : SchemaTree → Option ℕ → Bool
is_cased t None = false
is_cased t (Some x) = is_some (case_at t.nodes x)

-- a row is at or below a node that stands in a case
unfoldable pub passes_case : SchemaTree → List PathStep → Bool
passes_case t row = list_any (λ n. is_cased t (node_of t (take n row))) (range_with_len 0 (suc (length row)))

-- a row concerns a rule on whole configurations, or that on cases
abbrev pub is_concerned : SchemaTree → Rule → List PathStep → Bool
is_concerned t OneCase row = passes_case t row
is_concerned t Leafref row = concerns t Leafref row
is_concerned t Unique row = concerns t Unique row
is_concerned t _ row = false

-- the least path at which a rule is violated, where a row concerns it
abbrev pub least_if : Bool → SchemaTree → Rows → Rule → Option (List PathStep)
least_if asked t rows rule = if asked then least_at t rows rule else None
