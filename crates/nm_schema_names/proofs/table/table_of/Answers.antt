use Rattle.std.proofs.Common.{◌≡◌, ◌+◌, ◌-◌, arith}
use Rattle.std.specs.BTreeMap.{get}
use Rattle.nm_schema_names.specs.Table.{key_cmp, IsTable}
use Rattle.nm_schema_names.proofs.Tables.{filled, whole}
use Rattle.nm_schema_names.proofs.table.table_of.Goals as goal

pub loop-at-preserved : goal.loop-at-preserved
loop-at-preserved c =
    let on : c.loop-at.at ≡ (c.loop-at.at - 1) + 1 = omega arith in
    record {
      within = omega arith;
      first = λ q. filled c.args.reach c.args.rows.now (c.loop-at.at - 1) c.loop-at.at c.in-Some.row.now q (get key_cmp c.loop-at.map q) (get key_cmp c.put.new.map q) c.in-Some.ensures on (c.loop-at.invariant.first q) (c.in-Ok.ensures.put q);
    }

pub returns : goal.returns
unfolding IsTable
returns c =
    let none : c.loop-at.at ≡ 0 = omega arith in
    λ q. whole c.args.reach c.args.rows.now c.loop-at.at q (get key_cmp c.loop-at.map q) none (c.loop-at.invariant.first q)
