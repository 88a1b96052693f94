use Rattle.std.proofs.Common.{ap, ◌∙◌, length}
use Rattle.nm_manager.proofs.Slots.{slots_length}
use Rattle.nm_manager.proofs.manager.Manager.new.Goals as goal

pub invariant_of-result : goal.invariant_of-result
invariant_of-result c =
    (ap length c.in_ok-slots.ensures ∙ slots_length c.as_slice.result.now 1 ∙ ap length c.as_slice.ensures, c.requires.well_formed, c.requires.few)
