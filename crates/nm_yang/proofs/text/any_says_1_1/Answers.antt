use Rattle.std.proofs.Common.{◌≡◌, ◌<◌, ◌+◌, ℕ, suc, List, ◌∷◌, length, drop, get_or, refl, sym, ap, ◌∙◌, add-one, drop-cons}
use Rattle.std.specs.Prelude.{◌||◌}
use Rattle.nm_yang.specs.Tree.{Tree}
use Rattle.nm_yang.specs.Module.{any_says_1_1, says_1_1}
use Rattle.nm_yang.proofs.text.any_says_1_1.Goals as goal

any-at : (ts : List Tree) (i : ℕ) (t : Tree) → i < length ts → t ≡ get_or ts i t → any_says_1_1 (drop i ts) ≡ (says_1_1 t || any_says_1_1 (drop (i + 1) ts))
any-at ts i t lt is =
    let d : drop i ts ≡ t ∷ drop (i + 1) ts = rw (add-one, drop-cons ts i t) (ap (λ (x : Tree). x ∷ drop (suc i) ts) (sym is)) in
    ap any_says_1_1 d

pub returns-then-says_1_1 : goal.returns-then-says_1_1
returns-then-says_1_1 c =
    let a = any-at c.args.statements.now c.loop-statement.statement-index c.statement-item.result c.loop-statement-test.true c.statement-item.is in
    let s = c.if-says_1_1.ensures in
    let i = c.loop-statement.invariant in
    sym (sym i ∙ a ∙ rw (← s) refl)

pub loop-statement-preserved : goal.loop-statement-preserved
loop-statement-preserved c =
    let a = any-at c.args.statements.now c.loop-statement.statement-index c.statement-item.result c.loop-statement-test.true c.statement-item.is in
    let s = c.if-says_1_1.ensures in
    let i = c.loop-statement.invariant in
    let b : any_says_1_1 (drop c.loop-statement.statement-index c.args.statements.now) ≡ any_says_1_1 (drop (c.loop-statement.statement-index + 1) c.args.statements.now) = a ∙ rw (← s) refl in
    sym b ∙ i
