use Rattle.nm_device.specs.Device.{fresh_device}
use Rattle.nm_notify.proofs.Pending.{same_told}
use Rattle.nm_notify.proofs.laws.replaying_tells_the_same.Goals as goal

pub returns : goal.returns
returns g c tables first history legal =
    same_told (g.C.Content.meaning c.args.content.now) (g.met.C.Content.laws c.args.content.now) tables 1 (fresh_device first) history legal
