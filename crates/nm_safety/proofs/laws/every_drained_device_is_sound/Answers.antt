use Rattle.nm_safety.proofs.Drained.{drained_sound}
use Rattle.nm_safety.proofs.laws.every_drained_device_is_sound.Goals as goal

pub returns : goal.returns
returns g c = λ setting running events steps. drained_sound (g.C.Content.meaning c.args.content.now) (g.met.C.Content.laws c.args.content.now) setting running events steps
