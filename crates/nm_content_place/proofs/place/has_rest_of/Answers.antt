use Rattle.std.proofs.Common.{refl}
use Rattle.nm_overlay.proofs.Below.{not_before_itself}
use Rattle.nm_content_place.proofs.place.has_rest_of.Goals as goal

pub walk-init : goal.walk-init
walk-init g c = record { left = refl; behind = not_before_itself c.args.path.now }
