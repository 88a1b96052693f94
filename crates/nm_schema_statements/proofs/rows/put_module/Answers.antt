use Rattle.std.proofs.Common.{◌≡◌, ◌∷◌, [], ◌++◌, length, None, true, false, rules, sym, ap, ◌∙◌, refl}
use Rattle.nm_yang.specs.Tree.{statement, trees_of}
use Rattle.nm_schema_statements.specs.Word.{word_of}
use Rattle.nm_schema_statements.specs.Rows.{is_opened, row_of}
use Rattle.nm_schema_statements.proofs.Putting.{from_closed, module_put}
use Rattle.nm_schema_statements.proofs.rows.put_module.Goals as goal

pub returns-then-not-is_opened-clause-put : goal.returns-then-not-is_opened-clause-put
returns-then-not-is_opened-clause-put c =
    let s = c.statement.inside in
    let v = c.statement.view_is in
    let word : c.word_of.result ≡ word_of s.keyword = c.word_of.ensures ∙ ap word_of c.as_str.ensures in
    let closed : is_opened (word_of s.keyword) ≡ false = ap is_opened (sym word) ∙ sym c.if-not-is_opened.ensures in
    let row = rw (← v) at c.in_ok-row.ensures in
    let old = c.args.draft.now.rows.items in
    let pushed = c.in_ok-push_root.ensures.pushed in
    let now : c.push_root.new.draft.rows.items ≡ old ++ row_of c.args.owner None (statement s.keyword s.argument s.place (trees_of s.below.items)) ∷ [] = pushed ∙ ap (λ r. old ++ r ∷ []) row in
    rw (← v) (from_closed c.args.owner None (length old) s.keyword s.argument s.place (trees_of s.below.items) old c.push_root.new.draft.rows.items closed now)

pub returns-clause-put : goal.returns-clause-put
returns-clause-put c =
    let s = c.statement.inside in
    let v = c.statement.view_is in
    let word : c.word_of.result ≡ word_of s.keyword = c.word_of.ensures ∙ ap word_of c.as_str.ensures in
    let opened : is_opened (word_of s.keyword) ≡ true = ap is_opened (sym word) ∙ sym c.if-not-is_opened.ensures in
    let row = rw (← v) at c.in_ok-row.ensures in
    let old = c.args.draft.now.rows.items in
    let pushed = c.in_ok-push_root.ensures.pushed in
    let at : c.len-at.result ≡ length old = search rules in
    let out : c.push_root.new.draft.rows.items ≡ old ++ row_of c.args.owner None (statement s.keyword s.argument s.place (trees_of s.below.items)) ∷ [] = pushed ∙ ap (λ r. old ++ r ∷ []) row in
    let below : trees_of c.deref.result.now ≡ trees_of s.below.items = ap trees_of c.deref.ensures.value in
    rw (← v) (module_put c.args.owner (length old) s.keyword s.argument s.place (trees_of s.below.items) old c.push_root.new.draft.rows.items c.put_each.new.draft.rows.items opened out refl c.put_each.result
    (rw (at, below) at c.put_each.ensures.put))
