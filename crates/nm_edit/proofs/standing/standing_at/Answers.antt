use Rattle.std.proofs.Common.{◌∷◌, [], ◌++◌, ◌+◌, drop, sym, ap, ◌∙◌}
use Rattle.std.proofs.lemmas.List.{drop_all}
use Rattle.std.specs.FinMap.{get}
use Rattle.nm_edit.specs.Standing.{stepped, standing_from}
use Rattle.nm_edit.proofs.Steps.{one_taken}
use Rattle.nm_edit.proofs.standing.standing_at.Goals as goal

pub loop-step-preserved : goal.loop-step-preserved
loop-step-preserved c =
    let said = c.args.said.now in
    let items = c.deref-step-items.result.now in
    let i = c.loop-step.step-index in
    let step = c.step-item.result in
    let found = c.loop-step.found in
    let front = c.loop-step.front in
    let next = front ++ step ∷ [] in
    let left = drop (i + 1) items in
    let is_next = c.in_ok-go_on.ensures in
    let stands = c.stepped-found.ensures ∙ ap (λ own. stepped own found) (c.get.ensures ∙ ap (get said) is_next) in
    record {
      items = c.loop-step.invariant.items;
      left = ap (λ s. standing_from said s c.go_on.new.front left) stands
          ∙ ap (λ p. standing_from said (stepped (get said next) found) p left) is_next
          ∙ ap (standing_from said found front) (sym (one_taken items i step c.loop-step-test.true c.step-item.is))
          ∙ c.loop-step.invariant.left;
    }

pub returns : goal.returns
returns c =
    ap (standing_from c.args.said.now c.loop-step.found c.loop-step.front) (sym (drop_all c.loop-step.step-index c.deref-step-items.result.now c.loop-step-test.false))
    ∙ c.loop-step.invariant.left
