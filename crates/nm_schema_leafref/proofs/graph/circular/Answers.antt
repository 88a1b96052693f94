use Rattle.std.proofs.Common.{◌≡◌, ◌∙◌, sym, ap, subst, List, Bool, false, length, slice_index_or, arith}
use Rattle.nm_schema_leafref.proofs.Targets.{MarksBelow, marks-more, marks-all, ordered-not}
use Rattle.nm_schema_leafref.proofs.graph.circular.Goals as goal
use Rattle.nm_schema_leafref.proofs.graph.circular.Goals.{then-is_marked+in_ok-push, else-is_marked+in_ok-leads+in_ok-push-2}

pub loop-node-preserved : goal.loop-node-preserved
loop-node-preserved c =
    let is : c.is_marked.result ≡ slice_index_or c.in_ok-ordered.ordered.items c.loop-node.node false = c.is_marked.ensures ∙ ap (λ (l : List Bool). slice_index_or l c.loop-node.node false) c.deref.ensures.value in
    elim c.if-is_marked.branch [
      | then-is_marked+in_ok-push w ↦ rw (w.marks-is, w.in_ok-push.ensures.items) (marks-more c.args.graph.now c.loop-node.node c.loop-node.marks.items false c.loop-node.invariant
          (ordered-not c.args.graph.now c.args.order.now c.loop-node.node c.requires.order (c.in_ok-ordered.ensures.only c.loop-node.node (sym is ∙ w.if-is_marked.true))))
      | else-is_marked+in_ok-leads+in_ok-push-2 w ↦ rw (w.marks-is, w.in_ok-push-2.ensures.items) (marks-more c.args.graph.now c.loop-node.node c.loop-node.marks.items w.in_ok-leads.leads c.loop-node.invariant w.in_ok-leads.ensures)
    ]

pub returns-clause-marks : goal.returns-clause-marks
returns-clause-marks c =
    let all : c.loop-node.node ≡ length c.args.graph.now = omega arith in
    marks-all c.args.graph.now c.loop-node.marks.items (subst (λ n. MarksBelow c.args.graph.now n c.loop-node.marks.items) all c.loop-node.invariant)
