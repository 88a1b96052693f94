use Rattle.std.proofs.Common.{◌≡◌, ◌∙◌, ap, drop, arith}
use Rattle.std.specs.List.{position_from}
use Rattle.nm_schema_nodes.specs.Index.{has_key, IsTable}
use Rattle.nm_schema_nodes.proofs.table.table_of.Goals as goal

pub returns : goal.returns
unfolding IsTable
returns c =
    let none : c.loop-at.at ≡ 0 = omega arith in
    λ q. c.loop-at.invariant.first q ∙ ap (λ n. position_from (has_key c.args.rows.now q.parent q.owner q.name.now) n (drop n c.args.nodes.now)) none
