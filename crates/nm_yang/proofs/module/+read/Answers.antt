use Rattle.std.proofs.Common.{◌-◌, length, sym, ap, ◌∙◌, refl, arith}
use Rattle.std.proofs.lemmas.Result.{err_from_is_err_and}
use Rattle.nm_yang.proofs.Runs.{too_deep, start_fails, starts, statement_fails, blanks_fail, goes_on, closes}
use Rattle.nm_yang.specs.Page.{at_end}
use Rattle.nm_yang.proofs.module.+read.Goals as goal

pub inside-returns-then-depth-eq0-clause-read : goal.inside-returns-then-depth-eq0-clause-read
inside-returns-then-depth-eq0-clause-read t c =
    let b = c.bad.ensures in
    too_deep c.refused.result c.args.depth c.args.reader.now c.args.below.now.items c.args.bytes.now c.if-depth-eq0.true (rw b at c.refused.ensures)

pub inside-returns-in_err-rest-clause-read : goal.inside-returns-in_err-rest-clause-read
inside-returns-in_err-rest-clause-read t c =
    let p = err_from_is_err_and c.from_residual.result c.from_residual.ensures.1 in
    let f = rw c.tail.ensures.value at c.in_err-rest.ensures.rest in
    rw (p.1, p.2) (start_fails c.in_err-rest.field-0.0 c.args.depth c.args.reader.now c.args.below.now.items c.args.bytes.now (omega arith) f)

pub inside-each-init : goal.inside-each-init
inside-each-init t c =
    let s = c.in_ok-rest.ensures in
    let f = rw c.tail.ensures.value at s.rest in
    let e = c.at_end-ending.ensures ∙ ap (at_end c.args.reader.now) c.bad-open.ensures in
    let g = starts c.args.depth c.args.reader.now c.at_end-ending.result c.args.below.now.items c.args.bytes.now c.in_ok-rest.rest.now (omega arith) e f in
    (length c.in_ok-rest.rest.now, omega arith, g, omega (arith, s.shorter, c.tail.ensures.shorter), refl)

pub inside-returns-in-Err-clause-read : goal.inside-returns-in-Err-clause-read
inside-returns-in-Err-clause-read t c =
    let l = c.each.invariant in
    statement_fails c.in-Err.fault c.args.depth c.args.reader.now c.each.reader c.at_end-ending.result l.0 c.args.below.now.items c.each.below.items c.each.rest.now _ l.4 (sym c.each-test.ensures) l.1 c.in-Err.ensures.read l.2

pub inside-returns-in-Err-skip-clause-read : goal.inside-returns-in-Err-skip-clause-read
inside-returns-in-Err-skip-clause-read t c =
    let l = c.each.invariant in
    let s = c.in-Ok.ensures in
    blanks_fail c.in-Err-skip.fault c.args.depth c.args.reader.now c.each.reader c.statement_at.new.reader c.at_end-ending.result l.0 c.args.below.now.items c.each.below.items c.push.new.self.items c.each.rest.now c.in-Ok.read.1.now c.in-Ok.read.0 _ l.4 (s.same ∙ l.4) (sym c.each-test.ensures) (omega (arith, s.shorter, l.1)) s.read c.in_ok-push.ensures.items c.in-Err-skip.ensures.rest l.2

pub inside-each-preserved : goal.inside-each-preserved
inside-each-preserved t c =
    let l = c.each.invariant in
    let s = c.in-Ok.ensures in
    let k = c.in-Ok-skip.ensures in
    let g = goes_on c.args.depth c.args.reader.now c.each.reader c.statement_at.new.reader c.at_end-ending.result l.0 c.args.below.now.items c.each.below.items c.push.new.self.items c.each.rest.now c.in-Ok.read.1.now c.in-Ok-skip.rest.now c.in-Ok.read.0 _ l.4 (s.same ∙ l.4) (sym c.each-test.ensures) (omega (arith, s.shorter, l.1)) s.read c.in_ok-push.ensures.items k.rest l.2 in
    (l.0 - 1, omega (arith, s.shorter, k.shorter, l.1), g, omega (arith, s.shorter, k.shorter, l.3), s.same ∙ l.4)

pub inside-returns-clause-read : goal.inside-returns-clause-read
inside-returns-clause-read t c =
    let l = c.each.invariant in
    let g = closes c.args.depth c.args.reader.now c.at_end-ending.result l.0 c.args.below.now.items c.each.below.items c.each.rest.now _ (sym c.each-test.ensures) l.1 l.2 in
    rw c.tail-2.ensures.value g
