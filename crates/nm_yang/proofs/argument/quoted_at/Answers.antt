use Rattle.std.proofs.Common.{◌-◌, ◌∙◌, length, sym, arith}
use Rattle.nm_yang.proofs.Joins.{first_piece, next_piece, next_fails, no_more}
use Rattle.nm_yang.proofs.argument.quoted_at.Goals as goal

pub joined-init : goal.joined-init
joined-init c =
    let s = c.in_ok-rest.ensures in
    let e = first_piece c.args.reader.now c.args.ending c.args.out.now.items c.args.bytes.now c.piece_at.new.out.items c.in_ok-rest.rest.now s.read in
    (length c.in_ok-rest.rest.now, omega arith, e, s.shorter, s.same)

pub returns-in-Err-clause-read : goal.returns-in-Err-clause-read
returns-in-Err-clause-read c =
    let l = c.joined.invariant in
    let h = rw l.4 at c.in-Err.ensures.read in
    next_fails c.args.reader.now c.args.ending l.0 c.joined.out.items c.joined.rest.now c.in-Err.fault _ (sym c.joined-test.ensures) l.1 h l.2

pub joined-preserved : goal.joined-preserved
joined-preserved c =
    let l = c.joined.invariant in
    let s = c.in-Ok.ensures in
    let h = rw l.4 at s.read in
    let e = next_piece c.args.reader.now c.args.ending l.0 c.joined.out.items c.joined.rest.now c.added_at.new.out.items c.in-Ok.rest.now _ (sym c.joined-test.ensures) l.1 h l.2 in
    (l.0 - 1, omega (arith, s.shorter, l.1), e, omega (arith, s.shorter, l.3), s.same ∙ l.4)

pub returns-clause-read : goal.returns-clause-read
returns-clause-read c =
    let l = c.joined.invariant in
    no_more c.args.reader.now c.args.ending l.0 c.joined.out.items c.joined.rest.now _ (sym c.joined-test.ensures) l.2
