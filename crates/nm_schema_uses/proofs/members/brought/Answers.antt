use Rattle.std.proofs.Common.{length}
use Rattle.std.proofs.lemmas.Result.{IfOk-weaker}
use Rattle.nm_graph.specs.Value.{strict, Holds}
use Rattle.nm_schema_uses.specs.Worth.{AreWorth}
use Rattle.nm_schema_uses.specs.Members.{brought, bring_step}
use Rattle.nm_schema_uses.proofs.Bringing.{brought-worth}
use Rattle.nm_schema_uses.proofs.members.brought.Goals as goal

pub returns : goal.returns
returns c = IfOk-weaker c.values.result (λ values. Holds (strict (bring_step c.args.rows.now c.args.groupings.now)) c.args.graph.now values.items) (λ values. AreWorth (brought c.args.rows.now c.args.groupings.now) (length c.args.rows.now) values.items)
    (λ values holds. brought-worth c.args.rows.now c.args.groupings.now c.args.graph.now values.items c.requires.bringing holds) c.values.ensures
