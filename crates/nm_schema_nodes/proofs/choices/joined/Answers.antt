use Rattle.std.proofs.Common.{◌≡◌, ◌∙◌, Some, None, get_or, slice_index_or, sym, ap, arith}
use Rattle.std.proofs.lemmas.Grind.{common_steps}
use Rattle.nm_graph.specs.Value.{values_at}
use Rattle.nm_schema_nodes.specs.Forks.{Forking, joined}
use Rattle.nm_schema_nodes.specs.Choices.{joined_all}
use Rattle.nm_schema_nodes.proofs.Joining.{join_start, join_more, join_many}
use Rattle.nm_schema_nodes.proofs.choices.joined.Goals as goal

pub loop-next-init : goal.loop-next-init
loop-next-init c = join_start c.args.limit c.args.values.now c.new-all.result c.args.successors.now c.new-all.ensures

pub returns-then-not-is_within : goal.returns-then-not-is_within
returns-then-not-is_within c =
    let at : slice_index_or c.args.values.now (get_or c.args.successors.now c.loop-next.next-index 0) None ≡ Some c.in-Some.more = grind (arith, common_steps) in
    join_many c.args.limit c.args.values.now c.loop-next.all c.in-Some.more c.in_ok-all-in-Some.all c.args.successors.now c.loop-next.next-index (joined_all c.args.limit (values_at c.args.values.now c.args.successors.now)) c.loop-next.invariant c.loop-next-test.true at
    (c.in_ok-all-in-Some.ensures ∙ ap (λ (f : Forking). joined c.loop-next.all f) c.get.ensures) (sym c.is_within.ensures ∙ c.if-not-is_within.true)

pub loop-next-preserved : goal.loop-next-preserved
loop-next-preserved c =
    let at : slice_index_or c.args.values.now (get_or c.args.successors.now c.loop-next.next-index 0) None ≡ Some c.in-Some.more = grind (arith, common_steps) in
    join_more c.args.limit c.args.values.now c.loop-next.all c.in-Some.more c.in_ok-all-in-Some.all c.args.successors.now c.loop-next.next-index (joined_all c.args.limit (values_at c.args.values.now c.args.successors.now)) c.loop-next.invariant c.loop-next-test.true at
    (c.in_ok-all-in-Some.ensures ∙ ap (λ (f : Forking). joined c.loop-next.all f) c.get.ensures) (sym c.is_within.ensures ∙ c.if-not-is_within.false)
