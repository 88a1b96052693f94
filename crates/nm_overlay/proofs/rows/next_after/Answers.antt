use Rattle.std.proofs.Common.{◌+◌, drop, refl, ap, sym, ◌∙◌}
use Rattle.std.proofs.lemmas.List.{drop_all}
use Rattle.std.specs.Prelude.{option_copied}
use Rattle.std.specs.FinMap.{entries, entries_sorted}
use Rattle.nm_overlay.specs.Places.{comes_before}
use Rattle.nm_overlay.proofs.Following.{after, after_rest}
use Rattle.nm_overlay.proofs.Seek.{turn, seek_end, seek_base, seek_there, seek_gone}
use Rattle.nm_overlay.proofs.rows.next_after.Goals as goal

pub loop-changed-init : goal.loop-changed-init
loop-changed-init c = record { same = refl; rest = sym c.after-later.ensures }

pub returns-then-comes_before : goal.returns-then-comes_before
returns-then-comes_before c =
    let p = option_copied c.loop-changed.passed in
    let e = c.loop-changed-item.result in
    let rest = drop (c.loop-changed.changed-index + 1) c.after-later.result.now in
    let h = turn (after p (entries c.args.pairs.now)) c.after-later.result.now c.loop-changed.changed-index e c.loop-changed.invariant.rest c.loop-changed-test.true c.loop-changed-item.is in
    let first = ap (λ o. comes_before o e.0) (sym c.next_after-next.ensures) ∙ sym c.comes_before.ensures in
    c.next_after-next.ensures ∙ sym (seek_base c.args.base.now c.args.pairs.now p e rest h (first ∙ c.if-comes_before.true))
    ∙ c.loop-changed.invariant.same

pub returns-then-is_some : goal.returns-then-is_some
returns-then-is_some c =
    let p = option_copied c.loop-changed.passed in
    let e = c.loop-changed-item.result in
    let rest = drop (c.loop-changed.changed-index + 1) c.after-later.result.now in
    let h = turn (after p (entries c.args.pairs.now)) c.after-later.result.now c.loop-changed.changed-index e c.loop-changed.invariant.rest c.loop-changed-test.true c.loop-changed-item.is in
    let first = ap (λ o. comes_before o e.0) (sym c.next_after-next.ensures) ∙ sym c.comes_before.ensures in
    sym (seek_there c.args.base.now c.args.pairs.now p e rest h (first ∙ c.if-comes_before.false) (sym c.is_some.ensures ∙ c.if-is_some.true))
    ∙ c.loop-changed.invariant.same

pub loop-changed-preserved : goal.loop-changed-preserved
loop-changed-preserved c =
    let p = option_copied c.loop-changed.passed in
    let e = c.loop-changed-item.result in
    let rest = drop (c.loop-changed.changed-index + 1) c.after-later.result.now in
    let h = turn (after p (entries c.args.pairs.now)) c.after-later.result.now c.loop-changed.changed-index e c.loop-changed.invariant.rest c.loop-changed-test.true c.loop-changed-item.is in
    let first = ap (λ o. comes_before o e.0) (sym c.next_after-next.ensures) ∙ sym c.comes_before.ensures in
    record {
      same = seek_gone c.args.base.now c.args.pairs.now p e rest h (first ∙ c.if-comes_before.false) (sym c.is_some.ensures ∙ c.if-is_some.false)
          ∙ c.loop-changed.invariant.same;
      rest = after_rest p (entries c.args.pairs.now) (entries_sorted c.args.pairs.now) e rest h;
    }

pub returns : goal.returns
returns c =
    let p = option_copied c.loop-changed.passed in
    let none = c.loop-changed.invariant.rest ∙ drop_all c.loop-changed.changed-index c.after-later.result.now c.loop-changed-test.false in
    c.next_after.ensures ∙ sym (seek_end c.args.base.now c.args.pairs.now p none) ∙ c.loop-changed.invariant.same
