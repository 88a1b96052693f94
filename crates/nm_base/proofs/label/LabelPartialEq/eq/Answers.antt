use Rattle.std.proofs.Common.{subst}
use Rattle.nm_base.specs.Head.{IsHead}
use Rattle.nm_base.proofs.Heads.{test_of_heads}
use Rattle.nm_base.proofs.label.LabelPartialEq.eq.Goals as goal

pub returns-else-self-other : goal.returns-else-self-other
returns-else-self-other c =
    let self_head = subst (λ bytes. IsHead 8 0 bytes c.self.inside.head) c.self.view_is c.self.invariant in
    let other_head = subst (λ bytes. IsHead 8 0 bytes c.other.inside.head) c.other.view_is c.other.invariant in
    test_of_heads c.args.self.now c.args.other.now _ _ self_head other_head c.if-self-other.false
