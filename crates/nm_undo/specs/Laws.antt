-- What comes of taking an edit back.
use Rattle.std.specs.Prelude.{List}
use Rattle.nm_schema_tree.specs.Nodes.{SchemaTree, AreNested}
use Rattle.nm_path.specs.Sound.{IsSound}
use Rattle.nm_config.specs.Rows.{Rows}
use Rattle.nm_validate_rules.specs.Standing.{StandsIn}
use Rattle.nm_validate_rules.specs.Violation.{IsValid}
use Rattle.nm_edit.specs.declared.edit.EditNode.{EditNode}
use Rattle.nm_edit.specs.EditOf.{IsEditOf}

-- a valid configuration of a schema, and an edit of that
pub record AreGiven (t : SchemaTree) (old : Rows) (nodes : List EditNode) : Type 0 where
  pub sound : IsSound t.nodes
  pub nested : AreNested t.choices t.cases
  pub stands : StandsIn t old
  pub valid : IsValid t old
  pub edit : IsEditOf t nodes
