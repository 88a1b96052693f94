use Rattle.std.proofs.Common.{◌∙◌, ◌+◌, ℕ, Option, Some, drop, fold, sym, ap}
use Rattle.std.proofs.lemmas.List.{drop_all, drop_more}
use Rattle.nm_schema.specs.Kind.{further, reached}
use Rattle.nm_schema.proofs.list.reached.Goals as goal

pub loop-row-preserved : goal.loop-row-preserved
loop-row-preserved c =
    let on = further c.args.grounds.now.rows c.args.grounds.now.facts in
    let rows = c.as_slice-row-items.result.now in
    let i = c.loop-row.row-index in
    ap (λ (spot : Option ℕ). fold on spot (drop (i + 1) rows)) c.further-spot.ensures ∙ ap (fold on c.loop-row.spot) (sym (drop_more rows i 0 c.loop-row-test.true)) ∙ c.loop-row.invariant

pub returns : goal.returns
unfolding reached
returns c =
    let on = further c.args.grounds.now.rows c.args.grounds.now.facts in
    ap (fold on c.loop-row.spot) (sym (drop_all c.loop-row.row-index c.as_slice-row-items.result.now c.loop-row-test.false)) ∙ c.loop-row.invariant ∙ ap (fold on (Some c.args.number)) c.as_slice-row-items.ensures
