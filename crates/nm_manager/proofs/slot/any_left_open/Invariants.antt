use Rattle.nm_manager.proofs.Left.{NoneBefore}
use Rattle.nm_manager.proofs.slot.any_left_open.Given as goal

-- none of the sides that were passed has such a link
abbrev pub invariant-loop-side : goal.invariant-loop-side
invariant-loop-side l = NoneBefore l.sides l.side-index
