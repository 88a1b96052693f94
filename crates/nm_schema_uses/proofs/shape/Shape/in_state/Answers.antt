use Rattle.std.proofs.Common.{◌≡◌, length, subst}
use Rattle.nm_schema_uses.specs.Config.{Marks, IsInState}
use Rattle.nm_schema_uses.specs.Outline.{Outline}
use Rattle.nm_schema_uses.proofs.shape.Shape.in_state.Goals as goal

pub returns-clause-marks : goal.returns-clause-marks
returns-clause-marks c = subst (λ (s : Outline). Marks (IsInState s.rows s.groupings) c.as_slice.result.now) c.self.view_is (rw c.as_slice.ensures.value c.self.invariant.settled.in_state)

pub returns-clause-size : goal.returns-clause-size
returns-clause-size c = subst (λ (s : Outline). length c.as_slice.result.now ≡ length s.rows) c.self.view_is (rw c.as_slice.ensures.value c.self.invariant.settled.in_state_rows)
