use Rattle.std.proofs.Common.{length, ap, sym, ◌∙◌, arith}
use Rattle.nm_config.proofs.Steps.{is_under-short, is_under-done, is_under-turn, stops, goes_on}
use Rattle.nm_config.proofs.under.is_under.Goals as goal

pub returns-in_default : goal.returns-in_default
returns-in_default c =
    let a = ap length c.loop-depth.invariant.items in
    let b = ap length (c.deref.ensures.value ∙ c.path.view_is) in
    let h = c.in_default.ensures.lookup in
    sym (is_under-short c.loop-depth.depth c.args.node.now c.args.path.now c.step-item.result (omega arith) (omega (arith, h.3))) ∙ c.loop-depth.invariant.rest

pub returns-then-not-goes_along : goal.returns-then-not-goes_along
returns-then-not-goes_along c =
    let h = c.in-Some.ensures.lookup in
    stops _ _ _ c.if-not-goes_along.true (is_under-turn c.loop-depth.depth c.args.node.now c.args.path.now _ _ _ _ _ _
    c.loop-depth.invariant.items (c.deref.ensures.value ∙ c.path.view_is) (c.len.ensures ∙ sym c.deref-step-items.ensures.len ∙ ap length c.loop-depth.invariant.items)
    c.loop-depth-test.true h.3.0 c.step-item.is h.1 c.goes_along.ensures c.loop-depth.invariant.rest)

pub loop-depth-preserved : goal.loop-depth-preserved
loop-depth-preserved c =
    let h = c.in-Some.ensures.lookup in
    record {
      items = c.loop-depth.invariant.items;
      rest = goes_on _ _ _ c.if-not-goes_along.false (is_under-turn c.loop-depth.depth c.args.node.now c.args.path.now _ _ _ _ _ _
          c.loop-depth.invariant.items (c.deref.ensures.value ∙ c.path.view_is) (c.len.ensures ∙ sym c.deref-step-items.ensures.len ∙ ap length c.loop-depth.invariant.items)
          c.loop-depth-test.true h.3.0 c.step-item.is h.1 c.goes_along.ensures c.loop-depth.invariant.rest);
    }

pub returns : goal.returns
returns c =
    let a = ap length c.loop-depth.invariant.items in
    sym (is_under-done c.loop-depth.depth c.args.node.now _ (omega arith)) ∙ c.loop-depth.invariant.rest
