use Rattle.std.proofs.Common.{subst}
use Rattle.nm_schema_tree.specs.Nodes.{SchemaTree}
use Rattle.nm_path.specs.Sound.{HaveHeldBounds}
use Rattle.nm_json.specs.Configs.{IsConfigOf}
use Rattle.nm_validate_rules.proofs.Configs.{config_stands}
use Rattle.nm_yang_tests.proofs.content.config_of.Goals as goal

-- what is read by a schema tree stands in it
pub lift-requires-clause-stands : goal.lift-requires-clause-stands
lift-requires-clause-stands c =
    let tree = c.args.content.now in
    let read : HaveHeldBounds tree.nodes → IsConfigOf tree c.in-Ok.config =
    subst (λ (t : SchemaTree). HaveHeldBounds t.nodes → IsConfigOf t c.in-Ok.config) c.schema.ensures.value c.in-Ok.ensures.configuration in
    config_stands tree c.in-Ok.config (read c.schema.ensures.sound.bounds)
