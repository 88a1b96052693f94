use Rattle.std.proofs.Common.{refl}
use Rattle.nm_partial.specs.Partial.{without_absent}
use Rattle.nm_partial.proofs.Numbered.{numbered-map}
use Rattle.nm_partial.proofs.locks.PartialLocks.forget_absent.Goals as goal

pub invariant_of-self : goal.invariant_of-self
invariant_of-self g c =
    rw c.forget_absent.ensures (numbered-map (without_absent (g.C.Content.meaning c.args.content.now) c.args.running.now) (λ lock. refl) c.self.inside.locks.items c.self.inside.last c.self.invariant)
