use Rattle.std.proofs.Common.{ap, ◌∙◌, length}
use Rattle.nm_manager.proofs.Slots.{slots_length}
use Rattle.nm_manager.proofs.manager.Manager.begin_again.Goals as goal

pub invariant_of-self : goal.invariant_of-self
invariant_of-self g c =
    (ap length c.in-Ok.ensures ∙ slots_length c.as_slice.result.now 1 ∙ ap length c.as_slice.ensures, c.self.invariant.1, c.self.invariant.2)
