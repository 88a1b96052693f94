use Rattle.std.proofs.Common.{◌∷◌, [], ◌++◌, ◌+◌, drop, sym, ap, ◌∙◌}
use Rattle.std.proofs.lemmas.List.{drop_all}
use Rattle.nm_path.specs.Spelling.{node_of}
use Rattle.nm_config.specs.Rows.{with_entries}
use Rattle.nm_edit.proofs.Steps.{one_taken}
use Rattle.nm_undo.specs.Inverse.{front_by, fronts_from}
use Rattle.nm_undo.proofs.Maps.{with_append}
use Rattle.nm_undo.proofs.front.put_fronts.Goals as goal

pub loop-step-preserved : goal.loop-step-preserved
loop-step-preserved c =
    let t = c.args.schema.now in
    let items = c.deref-step-items.result.now in
    let i = c.loop-step.step-index in
    let step = c.step-item.result in
    let above = c.loop-step.above in
    let next = above ++ step ∷ [] in
    let left = drop (i + 1) items in
    let here = front_by t above (node_of t above) in
    record {
      items = c.loop-step.invariant.items;
      left = ap (λ m. with_entries m (fronts_from t c.go_on.new.front left)) c.in_ok-put_front.ensures
          ∙ ap (λ p. with_entries (with_entries c.loop-step.nodes here) (fronts_from t p left)) c.in_ok-go_on.ensures
          ∙ sym (with_append c.loop-step.nodes here (fronts_from t next left))
          ∙ ap (λ ss. with_entries c.loop-step.nodes (fronts_from t above ss)) (sym (one_taken items i step c.loop-step-test.true c.step-item.is))
          ∙ c.loop-step.invariant.left;
    }

pub returns : goal.returns
returns c =
    ap (λ ss. with_entries c.loop-step.nodes (fronts_from c.args.schema.now c.loop-step.above ss)) (sym (drop_all c.loop-step.step-index c.deref-step-items.result.now c.loop-step-test.false))
    ∙ c.loop-step.invariant.left
