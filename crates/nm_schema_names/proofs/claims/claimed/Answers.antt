use Rattle.std.proofs.Common.{length}
use Rattle.std.proofs.lemmas.Result.{IfOk-weaker}
use Rattle.nm_graph.specs.Value.{strict, Holds}
use Rattle.nm_schema_uses.specs.Worth.{AreWorth}
use Rattle.nm_schema_names.specs.Clash.{claimed, claim_step}
use Rattle.nm_schema_names.proofs.Clashing.{claimed-worth}
use Rattle.nm_schema_names.proofs.claims.claimed.Goals as goal

pub returns : goal.returns
returns c = IfOk-weaker c.values.result (λ values. Holds (strict (claim_step c.args.rows.now c.args.groupings.now)) c.args.graph.now values.items) (λ values. AreWorth (claimed c.args.rows.now c.args.groupings.now) (length c.args.rows.now) values.items)
    (λ values holds. claimed-worth c.args.rows.now c.args.groupings.now c.args.graph.now values.items c.requires.claiming holds) c.values.ensures
