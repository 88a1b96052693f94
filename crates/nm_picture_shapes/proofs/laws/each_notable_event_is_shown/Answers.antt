use Rattle.nm_picture_shapes.proofs.Shown.{notable_shown}
use Rattle.nm_picture_shapes.proofs.laws.each_notable_event_is_shown.Goals as goal

pub returns : goal.returns
returns c = notable_shown
