use Rattle.nm_picture_shapes.proofs.Shown.{active_has_row}
use Rattle.nm_picture_shapes.proofs.laws.each_active_event_has_a_row.Goals as goal

pub returns : goal.returns
returns c = active_has_row
