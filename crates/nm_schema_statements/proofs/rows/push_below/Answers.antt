use Rattle.std.proofs.Common.{◌≡◌, [], length, rules}
use Rattle.nm_schema_statements.proofs.Indexes.{indexed_below}
use Rattle.nm_schema_statements.proofs.rows.push_below.Goals as goal

pub returns-clause-indexed : goal.returns-clause-indexed
returns-clause-indexed c =
    let at : c.len-at.result ≡ length c.args.draft.now.rows.items = search rules in
    let none : c.new.result ≡ [] = c.new.ensures in
    let changed = c.in_ok-add_number.ensures in
    let below = c.in_ok-push.ensures.items in
    let rows = c.in_ok-push-2.ensures.items in
    let h = indexed_below c.args.draft.now.rows.items c.args.draft.now.below.items c.args.draft.now.top c.args.parent c.args.row c.requires.indexed c.requires.earlier c.requires.within in
    rw (rows, below, changed, at, none) h
