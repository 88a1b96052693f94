-- Where choices may be wanted (RFC 7950 section 7.9.4).
use Rattle.std.specs.Prelude.{List, Bool, ◌&&◌}
use Rattle.nm_types.specs.Path.{PathStep}
use Rattle.nm_schema_tree.specs.declared.choice.ChoiceNode.{ChoiceNode}
use Rattle.nm_schema_tree.specs.Nodes.{SchemaTree}
use Rattle.nm_config.specs.Rows.{Rows}
use Rattle.nm_validate_rules.specs.Cases.{is_allowed}
use Rattle.nm_validate_rules.specs.Guards.{holds_at}

-- what guards a place holds, and the case that the choice stands in
abbrev pub is_wanted : SchemaTree → Rows → List PathStep → ChoiceNode → Bool
is_wanted t rows above k = holds_at t rows above && is_allowed t rows above k.case_in
