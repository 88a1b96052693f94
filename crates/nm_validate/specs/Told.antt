-- What is told of a configuration that is checked (RFC 7950 section 8).
use Rattle.std.specs.Prelude.{◌≡◌, ◌↔◌, Option, Some, None, option_map}
use Rattle.nm_schema_tree.specs.Nodes.{SchemaTree}
use Rattle.nm_path.specs.Written.{path_text}
use Rattle.nm_config.specs.Rows.{Rows}
use Rattle.nm_proto.specs.Content.{Refusal}
use Rattle.nm_validate_rules.specs.Rule.{rule_tag}
use Rattle.nm_validate_rules.specs.Violation.{Violation, IsLeastViolation, IsValid, violation}

-- a violation as a refusal: the tag of its rule, and the text of its path (this project's own)
abbrev pub refusal_of : SchemaTree → Violation → Refusal
refusal_of t v = record { tag = rule_tag v.rule; path = path_text t v.path }

-- what is told of a configuration: its violation as a refusal, and nothing of one that is valid
abbrev pub violation_told : SchemaTree → Rows → Option Refusal
violation_told t rows = option_map (refusal_of t) (violation t rows)

-- a refusal tells the least violation of a configuration
pub record TellsLeast (t : SchemaTree) (rows : Rows) (refusal : Refusal) : Type 0 where
  pub least : Violation
  pub is_least : IsLeastViolation t rows least
  pub told : refusal ≡ refusal_of t least

-- nothing is told exactly of what is valid, and what is told is the least violation
pub record IsToldRightly (t : SchemaTree) (rows : Rows) (told : Option Refusal) : Type 0 where
  pub none : (told ≡ None) ↔ IsValid t rows
  pub some : (refusal : Refusal) → (told ≡ Some refusal) ↔ TellsLeast t rows refusal
