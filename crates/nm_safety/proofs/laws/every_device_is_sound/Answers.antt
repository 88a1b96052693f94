use Rattle.nm_safety.proofs.Sound.{run_sound}
use Rattle.nm_safety.proofs.laws.every_device_is_sound.Goals as goal

pub returns : goal.returns
returns g c = λ setting running events. run_sound (g.C.Content.meaning c.args.content.now) (g.met.C.Content.laws c.args.content.now) setting running events
