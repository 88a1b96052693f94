use Rattle.std.proofs.Common.{◌≡◌, [], length, rules}
use Rattle.nm_schema_statements.proofs.Indexes.{indexed_root}
use Rattle.nm_schema_statements.proofs.rows.push_root.Goals as goal

pub returns-clause-indexed : goal.returns-clause-indexed
returns-clause-indexed c =
    let at : c.len-at.result ≡ length c.args.draft.now.rows.items = search rules in
    let none : c.new.result ≡ [] = c.new.ensures in
    let top = c.in_ok-push.ensures.pushed in
    let below = c.in_ok-push-2.ensures.items in
    let rows = c.in_ok-push-3.ensures.items in
    let h = indexed_root c.args.draft.now.rows.items c.args.draft.now.below.items c.args.draft.now.top c.args.row c.requires.indexed c.requires.outermost in
    rw (rows, below, top, at, none) h
