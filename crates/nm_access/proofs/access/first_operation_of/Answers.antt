use Rattle.nm_access.specs.Rule.{matches_operation}
use Rattle.nm_access.proofs.Firsts.{passed_on, found_in, none_left}
use Rattle.nm_access.proofs.access.first_operation_of.Goals as goal

pub returns-in-Some : goal.returns-in-Some
returns-in-Some c =
    found_in (matches_operation c.args.name.now) c.args.groups.now c.args.user.now c.lists.rest.now c.list-item.result c.in-Some.found _
    c.in-len1-up.len_at_least c.list-item.is c.in-Some.ensures c.lists.invariant

pub lists-preserved : goal.lists-preserved
lists-preserved c =
    passed_on (matches_operation c.args.name.now) c.args.groups.now c.args.user.now c.lists.rest.now c.list-item.result _ c.in-len1-up.len_at_least
    c.list-item.is c.in-None.ensures c.lists.invariant

pub returns : goal.returns
returns c =
    none_left (matches_operation c.args.name.now) c.args.groups.now c.args.user.now c.lists.rest.now _ c.in_default.len_below c.lists.invariant
