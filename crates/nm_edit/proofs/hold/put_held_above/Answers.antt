use Rattle.std.proofs.Common.{◌∷◌, [], ◌++◌, ◌+◌, drop, sym, ap, ◌∙◌, append-nil, append_assoc}
use Rattle.std.proofs.lemmas.List.{drop_all}
use Rattle.nm_edit.specs.Edited.{held_at, held_from}
use Rattle.nm_edit.proofs.Steps.{one_taken}
use Rattle.nm_edit.proofs.hold.put_held_above.Goals as goal

pub loop-step-preserved : goal.loop-step-preserved
loop-step-preserved g c =
    let t = c.args.schema.now in
    let rows = g.M.RowMap.rows c.args.config.now in
    let items = c.deref-step-items.result.now in
    let i = c.loop-step.step-index in
    let step = c.step-item.result in
    let held = c.loop-step.held.items in
    let above = c.loop-step.above in
    let next = above ++ step ∷ [] in
    let left = drop (i + 1) items in
    let here = held_at t rows above in
    record {
      items = c.loop-step.invariant.items;
      left = ap (λ hs. hs ++ held_from t rows c.go_on.new.front left) c.in_ok-put_held.ensures
          ∙ ap (λ p. (held ++ here) ++ held_from t rows p left) c.in_ok-go_on.ensures
          ∙ append_assoc held here (held_from t rows next left)
          ∙ ap (λ ss. held ++ held_from t rows above ss) (sym (one_taken items i step c.loop-step-test.true c.step-item.is))
          ∙ c.loop-step.invariant.left;
    }

pub returns : goal.returns
returns g c =
    let held = c.loop-step.held.items in
    sym (append-nil held)
    ∙ ap (λ ss. held ++ held_from c.args.schema.now (g.M.RowMap.rows c.args.config.now) c.loop-step.above ss) (sym (drop_all c.loop-step.step-index c.deref-step-items.result.now c.loop-step-test.false))
    ∙ c.loop-step.invariant.left
