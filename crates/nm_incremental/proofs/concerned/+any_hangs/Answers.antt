use Rattle.std.proofs.Common.{◌≡◌, Bool, IfOk, sym, subst, ap, ◌∙◌}
use Rattle.std.specs.List.{list_any}
use Rattle.nm_validate_rules.specs.Places.{chain}
use Rattle.nm_validate_rules.specs.Reads.{hangs}
use Rattle.nm_incremental.proofs.Chains.{passes_here, passes_above}
use Rattle.nm_incremental.proofs.concerned.+any_hangs.Goals as goal

pub returns-then-here : goal.returns-then-here
returns-then-here t c =
    let tree = c.args.schema.now in
    passes_here tree c.laws.ensures (hangs tree c.args.row.now) c.in-Some.node c.args.at c.in-Some.is (sym c.in_ok-here.ensures ∙ c.if-here.true)

pub returns : goal.returns
returns t c =
    let tree = c.args.schema.now in
    subst (λ (b : Bool). IfOk c.any_hangs.result (λ is. is ≡ b)) (
    ap (λ o. list_any (hangs tree c.args.row.now) (chain tree.nodes o)) c.parent.ensures
    ∙ passes_above tree c.laws.ensures (hangs tree c.args.row.now) c.in-Some.node c.args.at c.in-Some.is (sym c.in_ok-here.ensures ∙ c.if-here.false)) c.any_hangs.ensures
