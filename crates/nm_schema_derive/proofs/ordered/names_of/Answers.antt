use Rattle.std.proofs.Common.{ap, ◌∙◌}
use Rattle.nm_types.specs.Names.{is_once}
use Rattle.nm_schema_derive.proofs.Naming.{once_listed}
use Rattle.nm_schema_derive.proofs.ordered.names_of.Goals as goal

pub new-requires : goal.new-requires
new-requires c = ap is_once c.in_ok-listed_names.ensures ∙ once_listed c.args.members.now c.requires.once
