use Rattle.nm_device_laws.proofs.Users.{users_kept}
use Rattle.nm_device_laws.proofs.laws.users_stay.Goals as goal

pub returns : goal.returns
returns g c s at n t is within = users_kept (g.C.Content.meaning c.args.content.now) at.tables s n t at.event at.h at.happens is within
