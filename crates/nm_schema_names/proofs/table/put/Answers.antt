use Rattle.std.specs.BTreeMap.{get}
use Rattle.nm_schema_names.specs.Table.{key_cmp}
use Rattle.nm_schema_names.proofs.Tables.{put_at}
use Rattle.nm_schema_names.proofs.table.put.Goals as goal

pub returns : goal.returns
returns c = record {
  put = λ q. put_at c.args.reach c.args.row.now c.args.at c.in-Some.key q (get key_cmp c.args.map.now q) (get key_cmp c.insert.new.self q) c.in-Some.ensures.some.0 c.in-Some.ensures.some.1 c.in-Some.ensures.some.2 (c.in_ok-insert.ensures.updates.0 q);
}
