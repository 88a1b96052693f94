use Rattle.std.proofs.Common.{slice_get, ap, ◌∙◌}
use Rattle.nm_world.proofs.Searches.{got}
use Rattle.nm_world.proofs.report.telling_of.Goals as goal

pub returns : goal.returns
returns g c =
    got c.get.result c.args.devices.now c.place_of.result _ c.get.ensures.lookup.3 c.get.ensures.lookup.1 ∙ ap (slice_get c.args.devices.now) c.place_of.ensures
