use Rattle.std.proofs.Common.{◌++◌, ap, sym, subst, ◌∙◌, append-nil}
use Rattle.nm_config.specs.Under.{rows_under}
use Rattle.nm_config.proofs.Ranges.{IsTail, under_in_range, tail-range, none_left}
use Rattle.nm_config.proofs.config.copies_under.Goals as goal

pub loop-path-init : goal.loop-path-init
loop-path-init c =
    let r = c.into_iter-path-iterator.ensures.into_iter_gives ∙ c.range-path-items.ensures.between tt in
    record {
      copied = ap (λ l. l ++ rows_under c.args.node.now c.into_iter-path-iterator.result) c.new-copies.ensures.items ∙ ap (rows_under c.args.node.now) r
          ∙ under_in_range c.args.node.now c.args.tree.now.entries;
      tail = subst (IsTail c.args.node.now) (sym r) (tail-range c.args.node.now c.args.tree.now.entries c.range-path-items.ensures.ordered);
    }

pub returns-then-not-is_under-clause-copies : goal.returns-then-not-is_under-clause-copies
returns-then-not-is_under-clause-copies c =
    let h = c.in-Some.ensures.steps in
    let out = sym c.is_under.ensures ∙ c.if-not-is_under.true in
    let none = ap (rows_under c.args.node.now) h ∙ none_left c.args.node.now _ _ (subst (IsTail c.args.node.now) h c.loop-path.invariant.tail) out in
    sym (append-nil c.loop-path.copies.items) ∙ ap (λ l. c.loop-path.copies.items ++ l) (sym none) ∙ c.loop-path.invariant.copied
