use Rattle.std.proofs.Common.{refl}
use Rattle.std.specs.BTreeMap.{get}
use Rattle.nm_schema_nodes.specs.declared.table.Key.{Key}
use Rattle.nm_schema_nodes.specs.Index.{key_cmp}
use Rattle.nm_schema_nodes.proofs.Tables.{put_at}
use Rattle.nm_schema_nodes.proofs.table.put.Goals as goal

pub returns : goal.returns
returns c =
    let key : Key = record { parent = c.args.node.now.parent; owner = c.module_above.result; name = c.argument_at.result } in
    λ q. put_at c.args.rows.now c.args.node.now c.args.at key q (get key_cmp c.args.map.now q) (get key_cmp c.insert.new.self q) refl c.module_above.ensures c.argument_at.ensures (c.in_ok-insert.ensures.updates.0 q)
