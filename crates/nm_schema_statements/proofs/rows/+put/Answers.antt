use Rattle.std.proofs.Common.{◌≡◌, ◌∷◌, [], ◌++◌, ◌+◌, length, suc, Some, true, false, rules, sym, ap, ◌∙◌, arith, refl, length-append}
use Rattle.nm_yang.specs.Tree.{statement, trees_of, tree_size, trees_size}
use Rattle.nm_schema_statements.specs.Word.{word_of}
use Rattle.nm_schema_statements.specs.Rows.{is_skipped, is_opened, row_of}
use Rattle.nm_schema_statements.proofs.Putting.{put_next, put_all, from_closed, kept_put, kept_is, item_size}
use Rattle.nm_schema_statements.proofs.rows.+put.Goals as goal

pub put_each-loop-statement-preserved : goal.put_each-loop-statement-preserved
put_each-loop-statement-preserved t c =
    put_next c.args.owner c.args.parent c.args.draft.now.rows.items c.args.statements.now c.loop-statement.draft.rows.items c.put_statement.new.draft.rows.items
    c.loop-statement.draft.below.items c.put_statement.new.draft.below.items c.loop-statement.draft.top c.put_statement.new.draft.top c.loop-statement.statement-index c.statement-item.result
    c.loop-statement.invariant c.loop-statement-test.true c.statement-item.is c.in_ok-put_statement.ensures.put c.in_ok-put_statement.ensures.indexed

pub put_each-returns-clause-put : goal.put_each-returns-clause-put
put_each-returns-clause-put t c =
    put_all c.args.owner c.args.parent c.args.draft.now.rows.items c.args.statements.now c.loop-statement.draft.rows.items c.loop-statement.draft.below.items c.loop-statement.draft.top
    c.loop-statement.statement-index c.loop-statement.invariant c.loop-statement-test.false

pub put_statement-returns-then-not-is_opened-clause-put : goal.put_statement-returns-then-not-is_opened-clause-put
put_statement-returns-then-not-is_opened-clause-put t c =
    let s = c.statement.inside in
    let v = c.statement.view_is in
    let word : c.word_of-word.result ≡ word_of s.keyword = c.word_of-word.ensures ∙ ap word_of c.as_str.ensures in
    let kept : is_skipped (word_of s.keyword) ≡ false = ap is_skipped (sym word) ∙ sym c.if-is_skipped.ensures in
    let closed : is_opened (word_of s.keyword) ≡ false = ap is_opened (sym word) ∙ sym c.if-not-is_opened.ensures in
    let row = rw (← v) at c.in_ok-row.ensures in
    let old = c.args.draft.now.rows.items in
    let pushed = c.in_ok-push_below.ensures.pushed in
    let now : c.push_below.new.draft.rows.items ≡ old ++ row_of c.args.owner (Some c.args.parent) (statement s.keyword s.argument s.place (trees_of s.below.items)) ∷ [] = pushed ∙ ap (λ r. old ++ r ∷ []) row in
    let from = from_closed c.args.owner (Some c.args.parent) (length old) s.keyword s.argument s.place (trees_of s.below.items) old c.push_below.new.draft.rows.items closed now in
    rw (← v) (kept_is c.args.owner c.args.parent (length old) (statement s.keyword s.argument s.place (trees_of s.below.items)) old c.push_below.new.draft.rows.items kept from)

pub put_statement-put_each-requires : goal.put_statement-put_each-requires
put_statement-put_each-requires t c =
    let old = c.args.draft.now.rows.items in
    let pushed = c.in_ok-push_below.ensures.pushed in
    let at : c.len-at.result ≡ length old = search rules in
    let len : length c.push_below.new.draft.rows.items ≡ length old + 1 = ap length pushed ∙ length-append old (c.in_ok-row.row ∷ []) in
    let d = c.decreases in let e = c.deref.ensures.value in let size : tree_size c.args.statement.now ≡ suc (trees_size (trees_of c.statement.inside.below.items)) = ap tree_size (sym c.statement.view_is) in (rw e (omega (arith, d)), (c.in_ok-push_below.ensures.indexed, omega arith))

pub put_statement-returns-clause-put : goal.put_statement-returns-clause-put
put_statement-returns-clause-put t c =
    let s = c.statement.inside in
    let v = c.statement.view_is in
    let word : c.word_of-word.result ≡ word_of s.keyword = c.word_of-word.ensures ∙ ap word_of c.as_str.ensures in
    let kept : is_skipped (word_of s.keyword) ≡ false = ap is_skipped (sym word) ∙ sym c.if-is_skipped.ensures in
    let opened : is_opened (word_of s.keyword) ≡ true = ap is_opened (sym word) ∙ sym c.if-not-is_opened.ensures in
    let row = rw (← v) at c.in_ok-row.ensures in
    let old = c.args.draft.now.rows.items in
    let pushed = c.in_ok-push_below.ensures.pushed in
    let at : c.len-at.result ≡ length old = search rules in
    let out : c.push_below.new.draft.rows.items ≡ old ++ row_of c.args.owner (Some c.args.parent) (statement s.keyword s.argument s.place (trees_of s.below.items)) ∷ [] = pushed ∙ ap (λ r. old ++ r ∷ []) row in
    let below : trees_of c.deref.result.now ≡ trees_of s.below.items = ap trees_of c.deref.ensures.value in
    rw (← v) (kept_put c.args.owner c.args.parent (length old) s.keyword s.argument s.place (trees_of s.below.items) old c.push_below.new.draft.rows.items c.put_each.new.draft.rows.items kept opened out refl c.put_each.result
    (rw (at, below) at c.put_each.ensures.put))

pub put_each-put_statement-requires : goal.put_each-put_statement-requires
put_each-put_statement-requires t c =
    let d = c.decreases in
    let item = item_size c.args.statements.now c.loop-statement.statement-index c.statement-item.result c.loop-statement-test.true c.statement-item.is in
    (omega arith, (c.loop-statement.invariant.indexed, c.loop-statement.invariant.earlier))
