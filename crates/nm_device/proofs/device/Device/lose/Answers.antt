use Rattle.std.proofs.Common.{sym, subst}
use Rattle.nm_device.specs.Device.{IsSound}
use Rattle.nm_device.proofs.Sound.{ended_sound}
use Rattle.nm_device.proofs.device.Device.lose.Goals as goal

pub returns-clause-sound : goal.returns-clause-sound
returns-clause-sound g c =
    let m = g.C.Content.meaning c.args.content.now in
    subst (IsSound m) (sym c.end.ensures.ended) (ended_sound m c.args.self.now c.args.session c.requires.sound)
