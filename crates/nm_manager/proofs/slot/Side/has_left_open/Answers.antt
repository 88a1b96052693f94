use Rattle.std.proofs.Common.{◌≡◌, ℕ, false, sym, subst, ◌∙◌}
use Rattle.nm_wire.specs.Wire.{is_left_open}
use Rattle.nm_manager.specs.Slot.{SideState}
use Rattle.nm_manager.proofs.Left.{found_none}
use Rattle.nm_manager.proofs.slot.Side.has_left_open.Goals as goal

pub returns : goal.returns
returns c none =
    subst (λ (side : SideState). (link : ℕ) → is_left_open side.wire link ≡ false) c.self.view_is
    (found_none c.first_left_open.result _ (sym c.is_some.ensures ∙ none) c.first_left_open.ensures.none)
