use Rattle.std.proofs.Common.{refl, length}
use Rattle.std.proofs.lemmas.Result.{IfOk-weaker}
use Rattle.nm_graph.specs.Graph.{successors_of}
use Rattle.nm_graph.specs.Value.{strict, Holds}
use Rattle.nm_schema_uses.specs.Worth.{AreWorth}
use Rattle.nm_schema_uses.specs.Members.{bring_step}
use Rattle.nm_schema_uses.specs.Passing.{brought_along}
use Rattle.nm_schema_uses.proofs.Bringing.{along-worth}
use Rattle.nm_schema_uses.proofs.passing.brought_along.Goals as goal

pub returns : goal.returns
returns c = IfOk-weaker c.values.result (λ values. Holds (strict (bring_step c.args.rows.now c.args.groupings.now)) c.args.graph.now values.items)
    (λ values. AreWorth (brought_along c.args.rows.now c.args.groupings.now (successors_of c.args.graph.now)) (length c.args.rows.now) values.items)
    (λ values holds. along-worth c.args.rows.now c.args.groupings.now (successors_of c.args.graph.now) c.args.graph.now values.items (record { size = c.requires.size; each = λ i. refl }) holds) c.values.ensures
