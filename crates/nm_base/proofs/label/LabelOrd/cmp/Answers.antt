use Rattle.std.proofs.Common.{subst, ◌∙◌}
use Rattle.nm_base.specs.Head.{IsHead}
use Rattle.nm_base.proofs.Heads.{heads_order}
use Rattle.nm_base.proofs.label.LabelOrd.cmp.Goals as goal

pub returns-then-self-other : goal.returns-then-self-other
returns-then-self-other c =
    let self_head = subst (λ bytes. IsHead 8 0 bytes c.self.inside.head) c.self.view_is c.self.invariant in
    let other_head = subst (λ bytes. IsHead 8 0 bytes c.other.inside.head) c.other.view_is c.other.invariant in
    c.cmp.ensures ∙ heads_order 8 0 c.args.self.now c.args.other.now _ _ self_head other_head c.if-self-other.true
