-- What is found of a schema once (RFC 7950 section 7.9).
use Rattle.nm_schema_tree.specs.Nodes.{SchemaTree}
use Rattle.nm_validate_places.specs.Tables.{AreOfCases, AreOfChoices}
use Rattle.nm_incremental.specs.declared.groups.Members.{Members}

-- the nodes of each case and of each choice
pub record AreMembers (t : SchemaTree) (members : Members) : Type 0 where
  pub of_cases : AreOfCases t members.cases.items
  pub of_choices : AreOfChoices t members.choices.items
