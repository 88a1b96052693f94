use Rattle.std.proofs.Common.{◌∙◌}
use Rattle.nm_schema_nodes.proofs.Forked.{uses-astray}
use Rattle.nm_schema_nodes.proofs.choices.is_astray.Goals as goal

pub returns-in-Uses : goal.returns-in-Uses
returns-in-Uses c = c.is_empty.ensures ∙ uses-astray c.args.shape.now.rows c.args.shape.now.groupings c.args.at c.args.row.now c.leads_to.result.now c.requires c.in-Uses.is c.leads_to.ensures
