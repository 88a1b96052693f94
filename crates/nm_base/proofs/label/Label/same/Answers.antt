use Rattle.std.proofs.Common.{subst, eqb-true}
use Rattle.nm_base.specs.Head.{IsHead}
use Rattle.nm_base.proofs.Heads.{apart_by_heads}
use Rattle.nm_base.proofs.label.Label.same.Goals as goal

pub returns-else-self-other : goal.returns-else-self-other
returns-else-self-other c =
    let self_head = subst (λ bytes. IsHead 8 0 bytes c.self.inside.head) c.self.view_is c.self.invariant in
    let other_head = subst (λ bytes. IsHead 8 0 bytes c.other.inside.head) c.other.view_is c.other.invariant in
    let differ = apart_by_heads c.args.self.now c.args.other.now _ _ self_head other_head c.if-self-other.false in
    (λ e. absurd (c.if-self-other.false (eqb-true _ _ e)), λ e. absurd (differ e))
