use Rattle.std.proofs.Common.{◌∷◌, [], ◌++◌, ◌+◌, drop, sym, ap, ◌∙◌, append-nil, append_assoc}
use Rattle.std.proofs.lemmas.List.{drop_all}
use Rattle.nm_path.specs.Spelling.{node_of}
use Rattle.nm_edit.specs.Rivals.{rivals_at, ousted_from}
use Rattle.nm_edit.proofs.Steps.{one_taken}
use Rattle.nm_edit.proofs.clear.put_along.Goals as goal

pub loop-step-preserved : goal.loop-step-preserved
loop-step-preserved c =
    let t = c.args.schema.now in
    let items = c.deref-step-items.result.now in
    let i = c.loop-step.step-index in
    let step = c.step-item.result in
    let nodes = c.loop-step.nodes.items in
    let above = c.loop-step.above in
    let next = above ++ step ∷ [] in
    let left = drop (i + 1) items in
    let here = rivals_at t above (node_of t next) in
    let on = c.in_ok-put_next.ensures in
    record {
      items = c.loop-step.invariant.items;
      left = ap (λ ns. ns ++ ousted_from t c.put_next.new.above left) on.nodes
          ∙ ap (λ p. (nodes ++ here) ++ ousted_from t p left) on.above
          ∙ append_assoc nodes here (ousted_from t next left)
          ∙ ap (λ ss. nodes ++ ousted_from t above ss) (sym (one_taken items i step c.loop-step-test.true c.step-item.is))
          ∙ c.loop-step.invariant.left;
    }

pub returns : goal.returns
returns c =
    let nodes = c.loop-step.nodes.items in
    sym (append-nil nodes)
    ∙ ap (λ ss. nodes ++ ousted_from c.args.schema.now c.loop-step.above ss) (sym (drop_all c.loop-step.step-index c.deref-step-items.result.now c.loop-step-test.false))
    ∙ c.loop-step.invariant.left
