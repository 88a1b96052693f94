use Rattle.std.proofs.Common.{subst}
use Rattle.nm_manager.specs.Slot.{SlotState, IsNoneLeft}
use Rattle.nm_manager.proofs.slot.Slot.has_left_open.Goals as goal

pub returns : goal.returns
returns c none = subst (λ (slot : SlotState). IsNoneLeft slot.sides) c.self.view_is (subst IsNoneLeft c.as_slice.ensures.value (c.any_left_open.ensures none))
