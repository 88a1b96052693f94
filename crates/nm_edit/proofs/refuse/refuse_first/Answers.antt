use Rattle.std.proofs.Common.{◌≡◌, ◌+◌, None, drop, sym, ap, ◌∙◌}
use Rattle.std.proofs.lemmas.List.{drop_all}
use Rattle.nm_edit.specs.Refusals.{refusal_or, refused_at, first_refusal}
use Rattle.nm_edit.proofs.Steps.{one_taken}
use Rattle.nm_edit.proofs.refuse.refuse_first.Goals as goal

pub loop-act-preserved : goal.loop-act-preserved
loop-act-preserved g c =
    let t = c.args.schema.now in
    let rows = g.M.RowMap.rows c.args.config.now in
    let acts = c.args.acts.now in
    let i = c.loop-act.act-index in
    let act = c.act-item.result in
    let left = first_refusal t rows (drop (i + 1) acts) in
    let none : refused_at t rows act ≡ None = sym c.refused_at.ensures ∙ c.in_default.is in
    sym (ap (first_refusal t rows) (one_taken acts i act c.loop-act-test.true c.act-item.is) ∙ ap (λ o. refusal_or t act.path o left) none) ∙ c.loop-act.invariant

pub returns : goal.returns
returns g c =
    sym c.loop-act.invariant
    ∙ ap (first_refusal c.args.schema.now (g.M.RowMap.rows c.args.config.now)) (drop_all c.loop-act.act-index c.args.acts.now c.loop-act-test.false)
