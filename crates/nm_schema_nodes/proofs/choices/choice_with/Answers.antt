use Rattle.std.proofs.Common.{◌≡◌, ◌∙◌, Some, None, get_or, slice_index_or, drop, sym, ap, arith}
use Rattle.std.proofs.lemmas.Grind.{common_steps}
use Rattle.nm_graph.specs.Value.{values_at}
use Rattle.nm_schema_nodes.specs.Forks.{Forking, with_next}
use Rattle.nm_schema_nodes.specs.Choices.{choice_all}
use Rattle.nm_schema_nodes.proofs.Joining.{case_more, case_many, case_end, case_over}
use Rattle.nm_schema_nodes.proofs.choices.choice_with.Goals as goal

pub returns-then-not-is_within : goal.returns-then-not-is_within
returns-then-not-is_within c =
    let at : slice_index_or c.args.values.now (get_or c.args.successors.now c.loop-at.at 0) None ≡ Some c.in-Some.inner = grind (arith, common_steps) in
    case_many c.args.limit c.args.values.now c.loop-at.all c.args.cases.now c.args.successors.now c.loop-at.at (choice_all c.args.limit c.args.row c.args.cases.now (values_at c.args.values.now c.args.successors.now)) c.loop-at.invariant c.in-Some.inner c.in_ok-all-in-Some.all (omega arith) at
    (c.in_ok-all-in-Some.ensures ∙ ap (λ (f : Forking). with_next c.loop-at.all (drop c.loop-at.at c.args.cases.now) f) c.get.ensures) (sym c.is_within.ensures ∙ c.if-not-is_within.true)

pub loop-at-preserved : goal.loop-at-preserved
loop-at-preserved c =
    let at : slice_index_or c.args.values.now (get_or c.args.successors.now c.loop-at.at 0) None ≡ Some c.in-Some.inner = grind (arith, common_steps) in
    case_more c.args.limit c.args.values.now c.loop-at.all c.args.cases.now c.args.successors.now c.loop-at.at (choice_all c.args.limit c.args.row c.args.cases.now (values_at c.args.values.now c.args.successors.now)) c.loop-at.invariant c.in-Some.inner c.in_ok-all-in-Some.all (omega arith) at
    (c.in_ok-all-in-Some.ensures ∙ ap (λ (f : Forking). with_next c.loop-at.all (drop c.loop-at.at c.args.cases.now) f) c.get.ensures)

pub returns-then-not-is_within-2 : goal.returns-then-not-is_within-2
returns-then-not-is_within-2 c =
    case_over c.args.limit c.args.values.now c.loop-at.all c.args.cases.now c.args.successors.now c.loop-at.at (choice_all c.args.limit c.args.row c.args.cases.now (values_at c.args.values.now c.args.successors.now)) c.loop-at.invariant (omega arith) (sym c.is_within-2.ensures ∙ c.if-not-is_within-2.true)

pub returns : goal.returns
returns c =
    ap Some c.in_ok-new.ensures
    ∙ case_end c.args.limit c.args.values.now c.loop-at.all c.args.cases.now c.args.successors.now c.loop-at.at (choice_all c.args.limit c.args.row c.args.cases.now (values_at c.args.values.now c.args.successors.now)) c.loop-at.invariant (omega arith) (sym c.is_within-2.ensures ∙ c.if-not-is_within-2.false)
