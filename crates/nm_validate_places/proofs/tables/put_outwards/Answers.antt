use Rattle.std.proofs.Common.{subst}
use Rattle.nm_validate_places.specs.Tables.{PutsOnce}
use Rattle.nm_validate_places.proofs.Tabled.{left_on}
use Rattle.nm_validate_places.proofs.tables.put_outwards.Goals as goal

pub outwards-preserved : goal.outwards-preserved
outwards-preserved c =
    let before = c.outwards.groups.items in
    let after = c.put_once.new.groups.items in
    let put = subst (λ o. PutsOnce c.args.at o before after) c.group_of.ensures c.in_ok-put_once.ensures in
    left_on c.args.schema.now c.args.by c.args.at c.args.most c.args.from c.args.groups.now.items c.outwards.left c.in-Some.own c.outwards.over c.outer_case-over.result before after
    c.outwards-test.true c.in-Some.is c.outer_case-over.ensures.outer put c.outwards.invariant
