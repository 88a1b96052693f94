use Rattle.std.proofs.Common.{◌≡◌, ◌++◌, List, None, arith, ap, sym, ◌∙◌, append-nil}
use Rattle.nm_types.specs.Path.{PathStep}
use Rattle.nm_schema_tree.specs.Nodes.{case_at}
use Rattle.nm_edit.specs.Rivals.{rivals_at}
use Rattle.nm_edit.proofs.GoingNodes.{none_goes}
use Rattle.nm_edit.proofs.clear.put_rivals.Goals as goal

pub returns-then-is_none : goal.returns-then-is_none
returns-then-is_none c =
    let none : case_at c.args.schema.now.nodes c.in-Some.at ≡ None = grind (arith, c.case_in.ensures, c.is_none.ensures, c.if-is_none.true) in
    let before = c.args.nodes.now.items in
    sym (append-nil before)
    ∙ ap (λ (ns : List (List PathStep)). before ++ ns) (sym (none_goes c.args.schema.now c.args.above.now c.in-Some.at none))
    ∙ ap (λ o. before ++ rivals_at c.args.schema.now c.args.above.now o) (sym c.in-Some.is)
